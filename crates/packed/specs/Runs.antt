-- Cases run one after another.
use Rattle.std.specs.Prelude.{◌≡◌, ℕ, zero, suc, Bool, cond, Result, Ok}

-- the runs of cases 1 to so many, each a step that answers whether the case comes out right; how many do not
abbrev pub Runs : {S E : Type 0} → (S → ℕ → Result Bool E → S → Type 0) → S → ℕ → S → ℕ → Type 0
Runs step first zero last differ = (last ≡ first) × (differ ≡ 0)
Runs {S = S} step first (suc k) last differ =
    (mid : S) × (right : Bool) × (before : ℕ)
    × Runs step first k mid before × step mid (suc k) (Ok right) last × (differ ≡ cond right before (suc before))
