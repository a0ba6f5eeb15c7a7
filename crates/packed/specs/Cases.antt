-- The outcome of a request, and a case in an input.
use Rattle.std.specs.Prelude.{◌≡◌, ℕ, zero, suc, Bool, ◌&&◌, List, [], ◌∷◌, get_or, eqb, ltb, Option, MatchBool}
use Rattle.lists.specs.Lists.{same_list}
use Rattle.packed.specs.declared.cases.Outcome.{Outcome}
use Rattle.packed.specs.Input.{ReadsByte, ReadsNumber, ReadsLong, ReadsBytes}

abbrev pub outcome : ℕ → ℕ → ℕ → List ℕ → Outcome
outcome num p n vs = record { refusal = num; place = p; count = n; values = vs }

-- the six values where there are none
abbrev pub zeros : List ℕ
zeros = 0 ∷ 0 ∷ 0 ∷ 0 ∷ 0 ∷ 0 ∷ []

-- ---- what is read
-- a case up to its request: into this much room each its name, its buffer and its image
abbrev pub ReadsCase : Option (List ℕ) → Option (List ℕ) → ℕ → ℕ → ℕ → List ℕ → ℕ → List ℕ → ℕ → List ℕ → Type 0
ReadsCase old new request number name_room name buf_room buf image_room image =
    (a : Option (List ℕ)) × (b : Option (List ℕ)) × (c : Option (List ℕ)) × (d : Option (List ℕ))
    × ReadsByte old a request × ReadsNumber a b number
    × ReadsBytes b c name_room name × ReadsBytes c d buf_room buf × ReadsBytes d new image_room image

-- value k of so many; 0 where there are fewer
abbrev pub ReadsValue : Option (List ℕ) → Option (List ℕ) → ℕ → ℕ → ℕ → Type 0
ReadsValue old new k count v = MatchBool (ltb k count) (ReadsNumber old new v) ((new ≡ old) × (v ≡ 0))

-- the first n of the values of so many
abbrev pub ReadsValues : Option (List ℕ) → Option (List ℕ) → ℕ → ℕ → List ℕ → Type 0
ReadsValues old new count zero values = new ≡ old
ReadsValues old new count (suc n) values =
    (mid : Option (List ℕ)) × ReadsValues old mid count n values × ReadsValue mid new n count (get_or values n 0)

-- an outcome
abbrev pub ReadsOutcome : Option (List ℕ) → Option (List ℕ) → Outcome → Type 0
ReadsOutcome old new o =
    (a : Option (List ℕ)) × (b : Option (List ℕ)) × (c : Option (List ℕ))
    × ReadsNumber old a o.refusal × ReadsNumber a b o.place × ReadsNumber b c o.count × ReadsValues c new o.count 6 o.values

-- ---- what comes out
abbrev pub same_values : List ℕ → List ℕ → Bool
same_values v w =
    eqb (get_or v 0 0) (get_or w 0 0) && eqb (get_or v 1 0) (get_or w 1 0) && eqb (get_or v 2 0) (get_or w 2 0)
    && eqb (get_or v 3 0) (get_or w 3 0) && eqb (get_or v 4 0) (get_or w 4 0) && eqb (get_or v 5 0) (get_or w 5 0)

abbrev pub same_outcome : Outcome → Outcome → Bool
same_outcome a b = eqb a.refusal b.refusal && eqb a.place b.place && eqb a.count b.count && same_values a.values b.values

-- whether a request's outcome, text and hash of what it left are those that are read
abbrev pub ComesOut : Option (List ℕ) → Option (List ℕ) → Outcome → List ℕ → ℕ → Bool → Type 0
ComesOut old new got text hash right =
    (a : Option (List ℕ)) × (b : Option (List ℕ)) × (want : Outcome) × (told : List ℕ) × (left : ℕ)
    × ReadsOutcome old a want × ReadsBytes a b 4096 told × ReadsLong b new left
    × (right ≡ (same_outcome want got && same_list text told && eqb left hash))
