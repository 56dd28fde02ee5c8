-- Forests, the bytes that they are written as, and which of them are records.
use Rattle.std.specs.Prelude.{ℕ, suc, ◌/◌, ◌%◌, ◌<◌, ◌≤◌, max, List, [], ◌∷◌, ◌++◌, length}

-- A finite sequence of trees: none, or a first tree before a rest.
-- The first tree is a text, or a node with a label and a forest as its content.
-- Two texts side by side are two trees.
pub data Forest : Type 0 where
  nil : Forest
  text : (bytes : List ℕ) → (rest : Forest) → Forest
  node : (label : ℕ) → (content rest : Forest) → Forest

-- A label is a number from 1 to 65,535.
abbrev pub Label : ℕ → Type 0
Label l = (0 < l) × (l < 65536)

-- Every number of the list is a byte.
abbrev pub Bytes : List ℕ → Type 0
Bytes [] = Unit {0}
Bytes (b ∷ bs) = (b < 256) × Bytes bs

-- A text holds 0 to 255 bytes.
abbrev pub Text : List ℕ → Type 0
Text t = Bytes t × (length t < 256)

-- The labels and texts of the forest are labels and texts, at every level.
-- Wherever a law speaks of a forest, it is one of these.
abbrev pub Proper : Forest → Type 0
Proper nil = Unit {0}
Proper (text t r) = Text t × Proper r
Proper (node l c r) = Label l × Proper c × Proper r

-- One forest after another.
abbrev pub join : Forest → Forest → Forest
join nil g = g
join (text t r) g = text t (join r g)
join (node l c r) g = node l c (join r g)

-- A text is written 03, its byte count, its bytes; a node 01, its label in two bytes, high first, its content, 02.
abbrev pub bytes_of : Forest → List ℕ
bytes_of nil = []
bytes_of (text t r) = 3 ∷ (length t ∷ (t ++ bytes_of r))
bytes_of (node l c r) = 1 ∷ (l / 256 ∷ (l % 256 ∷ (bytes_of c ++ (2 ∷ bytes_of r))))

-- How deep nodes nest.
abbrev pub depth : Forest → ℕ
depth nil = 0
depth (text t r) = depth r
depth (node l c r) = max (suc (depth c)) (depth r)

-- A record is a forest of at most 4,096 bytes whose nodes nest at most 64 deep.
pub record Record (f : Forest) : Type 0 where
  pub proper : Proper f
  pub short : length (bytes_of f) ≤ 4096
  pub shallow : depth f ≤ 64
