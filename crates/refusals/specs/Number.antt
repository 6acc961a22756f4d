-- The refusals by document 01's numbers.
use Rattle.std.specs.Prelude.{ℕ}
use Rattle.refusals.specs.declared.Reason.{Reason}
use Rattle.refusals.specs.declared.Reason.TheVariants.{Short, Long, Version, Kind, Shape, Value, Perm, Key, Room, Draw, Stage, Weak, First, Second, SelfCheck}

abbrev pub SHORT : ℕ
SHORT = 1

abbrev pub LONG : ℕ
LONG = 2

abbrev pub VERSION : ℕ
VERSION = 3

abbrev pub KIND : ℕ
KIND = 4

abbrev pub SHAPE : ℕ
SHAPE = 5

abbrev pub VALUE : ℕ
VALUE = 6

abbrev pub PERM : ℕ
PERM = 7

abbrev pub KEY : ℕ
KEY = 8

abbrev pub ROOM : ℕ
ROOM = 9

abbrev pub DRAW : ℕ
DRAW = 10

abbrev pub STAGE : ℕ
STAGE = 11

abbrev pub WEAK : ℕ
WEAK = 12

abbrev pub FIRST : ℕ
FIRST = 13

abbrev pub SECOND : ℕ
SECOND = 14

abbrev pub SELF : ℕ
SELF = 15

-- the number of a reason
abbrev pub reason_number : Reason → ℕ
reason_number Short = SHORT
reason_number Long = LONG
reason_number Version = VERSION
reason_number Kind = KIND
reason_number Shape = SHAPE
reason_number Value = VALUE
reason_number Perm = PERM
reason_number Key = KEY
reason_number Room = ROOM
reason_number Draw = DRAW
reason_number Stage = STAGE
reason_number Weak = WEAK
reason_number First = FIRST
reason_number Second = SECOND
reason_number SelfCheck = SELF
