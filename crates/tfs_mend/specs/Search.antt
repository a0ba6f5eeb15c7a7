-- A search upwards by a test in code.
use Rattle.std.specs.Prelude.{◌≡◌, Bool, true, false, ℕ, ◌≤◌, ◌<◌, Option, Some, None, IfSome, IfNone}
use Rattle.std.specs.Option.{unwrap_or}
use Rattle.std.proofs.Common.{arith, sym}
use Rattle.std.proofs.Math.Decide.{dec_lt}
use Rattle.lists.specs.Lists.{least}
use Rattle.list_laws.specs.Least.{Below, found, none_found}

-- from `from` on and below n, by what calls of the test may give: r is the first number that passes, or none does
unfoldable pub Searched : (ℕ → Bool → Type 0) → ℕ → ℕ → Option ℕ → Type 0
Searched gives from n None = (k : ℕ) → from ≤ k → k < n → gives k false
Searched gives from n (Some r) = (r < n) × gives r true × ((k : ℕ) → from ≤ k → k < r → gives k false)

-- the calls compute f, which fails below `from`
module _ (f : ℕ → Bool) (gives : ℕ → Bool → Type 0) (same : (k : ℕ) (b : Bool) → gives k b → b ≡ f k) (from n : ℕ) (before : Below f from) where
  below : (r : ℕ) → ((k : ℕ) → from ≤ k → k < r → gives k false) → Below f r
  below r h k l = elim (dec_lt k from) [ yes m ↦ before k m | no m ↦ sym (same k false (h k (omega arith) l)) ]

  pub searched-some : (r : Option ℕ) → Searched gives from n r → IfSome r (λ k. (k < n) × (k ≡ least f n))
  unfolding Searched
  searched-some None s = tt
  searched-some (Some r) (l, hit, miss) = (l, found f n r l (below r miss) (sym (same r true hit)))

  pub searched-none : (r : Option ℕ) → Searched gives from n r → IfNone r (least f n ≡ n)
  unfolding Searched
  searched-none None s = sym (none_found f n n (omega arith) (omega arith) (below n s))
  searched-none (Some r) s = tt

  pub searched-least : (r : Option ℕ) → Searched gives from n r → unwrap_or r n ≡ least f n
  unfolding Searched
  searched-least None s = none_found f n n (omega arith) (omega arith) (below n s)
  searched-least (Some r) (l, hit, miss) = found f n r l (below r miss) (sym (same r true hit))
