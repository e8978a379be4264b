-- What a command says is pinned by `Demand3`, its key number by `DaemonTried`, the longest by `NoLonger` and `LongestReached`;
-- no tag, and no frame for no ID, are to be believed. The commands that the desk sends, and their frames as the frame writer
-- writes them (document 01, 'The desk').
-- Assumes nothing.
use Rattle.std.specs.Prelude.{ℕ, ◌≤◌, ◌≡◌, ◌⊎◌, List, [], ◌∷◌, ◌++◌, ℤ, pos, length, Ok}
use Rattle.bencode.specs.Value.{integer, list, Values, no_value, value, encode}
use Rattle.ipc.specs.declared.writer.Given.{Given}
use Rattle.ipc.specs.Header.{largest_payload}
use Rattle.ipc.specs.Writer.{payload_of, frame_of, message_fault}

-- downlimit, uplimit, start and stop
pub data Command : Type 0 where
  set_down : ℤ → Command
  set_up : ℤ → Command
  start : List ℕ → Command
  stop : List ℕ → Command

-- the numbers of their keys
abbrev pub downlimit_key : ℕ
downlimit_key = 5

abbrev pub start_key : ℕ
start_key = 16

abbrev pub stop_key : ℕ
stop_key = 18

abbrev pub uplimit_key : ℕ
uplimit_key = 20

-- a list of torrent IDs, and how it is written
unfoldable pub values : List ℕ → Values
values [] = no_value
values (x ∷ xs) = value (integer (pos x)) (values xs)

unfoldable pub id_list : List ℕ → List ℕ
id_list ids = encode (list (values ids))

-- the frame of a message with a tag (0 for none), of a limit, and of a list of IDs
unfoldable pub message_frame : ℕ → ℕ → Given → List ℕ → List ℕ
message_frame tag key given s = frame_of (payload_of key given s tag)

abbrev pub limit_frame : ℕ → ℕ → ℤ → List ℕ
limit_frame tag key n = message_frame tag key (Given.Integer n) []

abbrev pub ids_frame : ℕ → ℕ → List ℕ → List ℕ
ids_frame tag key ids = message_frame tag key Given.Bytes (id_list ids)

-- the frame of a command
unfoldable pub command_frame : ℕ → Command → List ℕ
command_frame tag (set_down n) = limit_frame tag downlimit_key n
command_frame tag (set_up n) = limit_frame tag uplimit_key n
command_frame tag (start ids) = ids_frame tag start_key ids
command_frame tag (stop ids) = ids_frame tag stop_key ids

-- frames carry no tag
abbrev pub no_tag : ℕ
no_tag = 0

-- a call's frames, joined
unfoldable pub frames_of : List Command → List ℕ
frames_of [] = []
frames_of (c ∷ cs) = command_frame no_tag c ++ frames_of cs

-- a start or stop, written only where it lists an ID
unfoldable pub listing : (List ℕ → Command) → List ℕ → List Command
listing c [] = []
listing c (x ∷ xs) = c (x ∷ xs) ∷ []

-- the commands of a raise or a clear: both limits, IDs to stop and IDs to start
abbrev pub four_commands : ℤ → ℤ → List ℕ → List ℕ → List Command
four_commands down up stops starts = Command.set_down down ∷ (Command.set_up up ∷ (listing Command.stop stops ++ listing Command.start starts))

-- the most bytes that a call writes
abbrev pub longest_frames : ℕ
longest_frames = 479

-- ---- for the functions that put frames
-- the frame of a list of IDs; none where the list is empty
unfoldable pub listed_frame : ℕ → ℕ → List ℕ → List ℕ
listed_frame tag key [] = []
listed_frame tag key (x ∷ xs) = ids_frame tag key (x ∷ xs)

-- the frame writer writes a message wherever its frame has room
abbrev pub Writable : ℕ → ℕ → Given → List ℕ → Type 0
Writable tag key given s = (message_fault key given s tag ≡ Ok tt) × (length (payload_of key given s tag) ≤ largest_payload)

abbrev pub LimitKey : ℕ → Type 0
LimitKey key = (key ≡ downlimit_key) ⊎ (key ≡ uplimit_key)

abbrev pub ListKey : ℕ → Type 0
ListKey key = (key ≡ start_key) ⊎ (key ≡ stop_key)
