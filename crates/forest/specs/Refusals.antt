-- The numbers of the refusals.
use Rattle.std.specs.Prelude.{ℕ}
use Rattle.forest.specs.declared.fault.Fault.{Fault}
use Rattle.forest.specs.declared.fault.Refusal.{Refusal}
use Rattle.forest.specs.declared.fault.Refusal.TheVariants.{EntryCutShort, NoMark, RecordTooLong, TreeCutShort, NoTree, LabelZero, Unbalanced, NestedTooDeep, SheetSize, NoRow, PartNotBelow, NotOnceAPart, NoDefinition, TooManyPlaces, ListSize, TooManySorts, EditionsFull, NoEdition, NotOfNewest, RecordsFull, NoRecord, BufferTooShort}

abbrev pub number_of : Refusal → ℕ
number_of EntryCutShort = 1
number_of NoMark = 2
number_of RecordTooLong = 3
number_of TreeCutShort = 4
number_of NoTree = 5
number_of LabelZero = 6
number_of Unbalanced = 7
number_of NestedTooDeep = 8
number_of SheetSize = 9
number_of NoRow = 10
number_of PartNotBelow = 11
number_of NotOnceAPart = 12
number_of NoDefinition = 13
number_of TooManyPlaces = 14
number_of ListSize = 20
number_of TooManySorts = 21
number_of EditionsFull = 30
number_of NoEdition = 31
number_of NotOfNewest = 32
number_of RecordsFull = 33
number_of NoRecord = 34
number_of BufferTooShort = 35

-- What a fault tells: the refusal's number, and the place.
abbrev pub told : Fault → ℕ × ℕ
told f = (number_of f.refusal, f.place)

-- A refusal with its place.
abbrev pub fault : Refusal → ℕ → Fault
fault r n = record { refusal = r; place = n }
