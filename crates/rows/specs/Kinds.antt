-- The kinds of rows that are definitions, and places.
use Rattle.std.specs.Prelude.{Bool, true, false, T}
use Rattle.rows.specs.Sheet.{Row, empty, one_text, named, any, seq, alt, many, def}

-- Whether the row is a definition.
abbrev pub is_definition_row : Row → Bool
is_definition_row empty = false
is_definition_row one_text = false
is_definition_row (named l d) = false
is_definition_row (any d) = false
is_definition_row (seq a b) = false
is_definition_row (alt a b) = false
is_definition_row (many a) = false
is_definition_row (def a) = true

-- Whether the row is a place: a definition or a leaf.
abbrev pub is_place_row : Row → Bool
is_place_row empty = false
is_place_row one_text = true
is_place_row (named l d) = true
is_place_row (any d) = true
is_place_row (seq a b) = false
is_place_row (alt a b) = false
is_place_row (many a) = false
is_place_row (def a) = true

abbrev pub IsDefinition : Row → Type 0
IsDefinition r = T (is_definition_row r)

abbrev pub IsPlace : Row → Type 0
IsPlace r = T (is_place_row r)
