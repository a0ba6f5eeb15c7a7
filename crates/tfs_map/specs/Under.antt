-- Lists of small numbers.
use Rattle.std.specs.Prelude.{◌≡◌, ℕ, ◌-◌, ◌≤◌, ◌<◌, List, ◌++◌, length, get_or, take}
use Rattle.std.proofs.Common.{arith, length-append, take_at}

-- every element of l is below n
abbrev pub Under : ℕ → List ℕ → Type 0
Under n l = (i : ℕ) → i < length l → get_or l i 0 < n

-- ---- the first w elements of a list that begins with xs, as code takes them: from 0 to w
module _ (out xs ys : List ℕ) (w : ℕ) (e : out ≡ xs ++ ys) (l : length xs ≡ w) where
  pub front : take (w - 0) out ≡ xs
  front = let z : w - 0 ≡ w = omega arith in rw (z, e) (take_at xs ys w l)

  pub front_fits : w ≤ length out
  front_fits = rw e (omega (arith, length-append xs ys))
