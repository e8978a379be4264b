-- To be believed. The desk's record (document 01, 'The desk': which records are 38, and how an accepted call changes one).
-- Assumes nothing.
use Rattle.std.specs.Prelude.{ℕ, Bool, true, false, ◌&&◌, ◌||◌, List, [], eqb, leb, ℤ, pos, take, drop, set}
use Rattle.desk.specs.declared.watch.Watch.{Watch}
use Rattle.desk.specs.declared.record.Desk.{Desk}
use Rattle.desk.specs.Limit.{is_limit}
use Rattle.desk.specs.Watch.{most_watched, padded, unused, has, place, list_fault}

-- the records in use
abbrev pub watched : Desk → List Watch
watched d = take d.count d.watch

-- both limits in range
unfoldable pub limits_sound : Desk → Bool
limits_sound d = is_limit d.down && is_limit d.up

-- every ID in range and none again, unused places zero, and an override on a watched ID where one stands
unfoldable pub list_sound : Desk → Bool
list_sound d =
    eqb (list_fault [] (watched d)) 0
    && (unused (drop d.count d.watch) && (eqb d.override_id 0 || has d.override_id (watched d)))

-- a record that is not 38
unfoldable pub sound : Desk → Bool
sound d = d.opened && (leb d.count most_watched && (limits_sound d && list_sound d))

-- a closed desk, which document 01 calls shut: zero throughout
unfoldable pub closed : Desk
closed = record { opened = false; count = 0; down = pos 0; up = pos 0; override_id = 0; watch = padded [] }

-- the record of a desk just opened
unfoldable pub opened_with : ℕ → List Watch → ℤ → ℤ → Desk
opened_with n ws down up = record { opened = true; count = n; down = down; up = up; override_id = 0; watch = padded ws }

-- the record with another down limit, up limit, override or running mark of a watched ID
unfoldable pub with_down : ℤ → Desk → Desk
with_down n d = record { opened = d.opened; count = d.count; down = n; up = d.up; override_id = d.override_id; watch = d.watch }

unfoldable pub with_up : ℤ → Desk → Desk
with_up n d = record { opened = d.opened; count = d.count; down = d.down; up = n; override_id = d.override_id; watch = d.watch }

unfoldable pub with_override : ℕ → Desk → Desk
with_override x d = record { opened = d.opened; count = d.count; down = d.down; up = d.up; override_id = x; watch = d.watch }

unfoldable pub with_running : ℕ → Bool → Desk → Desk
with_running x on d =
    record {
      opened = d.opened;
      count = d.count;
      down = d.down;
      up = d.up;
      override_id = d.override_id;
      watch = set d.watch (place x (watched d)) (record { id = x; running = on });
    }
