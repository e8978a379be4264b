-- Pinned by `PrintsWhole`. The watch records of a strip, one after the other, as the desk is opened with them (over 32 are 35
-- there, and no strip's fault).
-- Assumes nothing.
use Rattle.std.specs.Prelude.{◌+◌, cond, ltb, set, []}
use Rattle.desk.specs.declared.watch.Watch.{Watch}
use Rattle.desk.specs.Watch.{most_watched, padded}
use Rattle.strip.specs.declared.gather.Gathered.{Gathered}

unfoldable pub nothing_gathered : Gathered
nothing_gathered = record { watch = padded []; count = 0 }

-- one record more: at its place if there is one; past one too many it is not counted
unfoldable pub gathered : Gathered → Watch → Gathered
gathered g w =
    cond (ltb most_watched g.count) g
    (record { watch = cond (ltb g.count most_watched) (set g.watch g.count w) g.watch; count = g.count + 1 })
