-- What a tour of the headers has found, and what holds of the headers that it has visited.
use Rattle.std.specs.Prelude.{ℕ, suc, ◌+◌, ◌-◌, ◌≤◌, ◌<◌, ◌≡◌, ◌≢◌, Bool, true, false, ◌&&◌, ◌||◌, List, eqb}
use Rattle.romfs_spec.specs.Layout.{type_of_file, info, own, is_dots, has_list}
use Rattle.romfs_spec.specs.Check.{bad_link}
use Rattle.romfs_facts.specs.Tested.{IsReached}
use Rattle.romfs_facts.specs.Visit.{From}

-- whether spec.info of p is to be a reached header
unfoldable pub links_on : List ℕ → ℕ → Bool
links_on s p = eqb (type_of_file s p) 0 || (eqb (type_of_file s p) 1 && is_dots s p)

-- low is a reached header with a bad link, or full; far is behind the window from lo on, or full
pub record State (s : List ℕ) (full lo low far : ℕ) : Type 0 where
  pub low-to : low ≤ full
  pub bad : low ≢ full → IsReached s low × (bad_link s low ≡ true)
  pub far-to : far ≤ full
  pub behind : far ≢ full → lo + 1048576 ≤ far

-- what is found later is lower
abbrev pub Kept : ℕ → ℕ → ℕ → ℕ → Type 0
Kept low far low₂ far₂ = (low₂ ≤ low) × (far₂ ≤ far)

module _ (s : List ℕ) (full lo : ℕ) (fill : Bool) (low far : ℕ) where
  -- where links are tested: a bad link at q, below low, that does not lead before lo leads to far or behind it, and into the image
  abbrev pub Fine : ℕ → Type 0
  Fine q = fill ≡ false → bad_link s q ≡ true → q < low → lo ≤ info s q → (far ≤ info s q) × (info s q < full)

  -- of all headers of a list, from p on, and below them
  abbrev pub FineList : ℕ → ℕ → ℕ → Type 0
  FineList p bound left = (q b d : ℕ) → From s p bound (8 - left) q b d → Fine q

  -- of an entry at p, and of all headers below it
  abbrev pub FineEntry : ℕ → ℕ → ℕ → Type 0
  FineEntry p bound left = Fine p × (has_list s p ≡ true → (q b d : ℕ) → From s (info s p) (own s bound p) (suc (8 - left)) q b d → Fine q)

  -- of all reached headers
  abbrev pub FineAll : Type 0
  FineAll = (q : ℕ) → IsReached s q → Fine q

-- a bad link below low does not lead before lo
abbrev pub Tested : List ℕ → ℕ → ℕ → Type 0
Tested s lo low = (q : ℕ) → IsReached s q → bad_link s q ≡ true → q < low → lo ≤ info s q
