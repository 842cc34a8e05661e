-- Document 01's codes and limits, each once. Assumes nothing.
use Rattle.std.specs.Prelude.{ℕ}

-- ---- the codes: what each is given for
-- "1 Long: over 5,242,880 bytes"
abbrev pub LONG : ℕ
LONG = 1

-- "2 Frame: framing broken"
abbrev pub FRAME : ℕ
FRAME = 2

-- "3 Work: work area under 16 bytes a record of the files given"
abbrev pub WORK : ℕ
WORK = 3

-- "4 Described: record 0 breaks its rule"
abbrev pub DESCRIBED : ℕ
DESCRIBED = 4

-- "5 Layout: a record or field missing; a field wrongly placed, undeclared or not filled by its subfields"
abbrev pub LAYOUT : ℕ
LAYOUT = 5

-- "6 Value: a rule under Values broken"
abbrev pub VALUE : ℕ
VALUE = 6

-- "7 Twice: a name met before in its file"
abbrev pub TWICE : ℕ
TWICE = 7

-- "8 Counts: DSSI counts differ from a cell's records"
abbrev pub COUNTS : ℕ
COUNTS = 8

-- "9 Other: first 8 of DSNM differ"
abbrev pub OTHER : ℕ
OTHER = 9

-- "10 Edition: EDTN differs as a number"
abbrev pub EDITION : ℕ
EDITION = 10

-- "11 Number: UPDN isn't the cell's plus 1"
abbrev pub NUMBER : ℕ
NUMBER = 11

-- "12 Level: AALL or NALL differs"
abbrev pub LEVEL : ℕ
LEVEL = 12

-- "13 Target: insert of a held name or modify/delete of none"
abbrev pub TARGET : ℕ
TARGET = 13

-- "14 Version: RVER wrong"
abbrev pub VERSION : ℕ
VERSION = 14

-- "15 Identity: FOID, PRIM, GRUP or OBJL not the held"
abbrev pub IDENTITY : ℕ
IDENTITY = 15

-- "16 Edit: edit rule broken"
abbrev pub EDIT : ℕ
EDIT = 16

-- "17 Shape"
abbrev pub SHAPE : ℕ
SHAPE = 17

-- "18 Pointer"
abbrev pub POINTER : ℕ
POINTER = 18

-- "19 Ring"
abbrev pub RING : ℕ
RING = 19

-- "20 Size: held form over a limit"
abbrev pub SIZE : ℕ
SIZE = 20

-- "21 Room: output shorter than the held form"
abbrev pub ROOM : ℕ
ROOM = 21

-- "22 Absent: Show finds no such name"
abbrev pub ABSENT : ℕ
ABSENT = 22

-- ---- the limits
-- a file, and the held form: "5,242,880 bytes"
abbrev pub most_bytes : ℕ
most_bytes = 5242880

-- the held form: "65,536 records with record 0"
abbrev pub most_records : ℕ
most_records = 65536

-- a record of the held form: "99,999 bytes a record"
abbrev pub longest_record : ℕ
longest_record = 99999

-- the work area: "16 bytes a record of the files given"
abbrev pub work_each : ℕ
work_each = 16
