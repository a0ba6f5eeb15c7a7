-- The number of every refusal is from 1 to 15 or 32, and from 8 on its place is 0; 14 is in no table but list's, 32 in none but that of stores.
use Rattle.std.specs.Prelude.{◌≡◌, refl, ◌≢◌, ◌⊎◌, List, ℕ, ◌≤◌}
use Rattle.std.proofs.Common.{subst, inl, inr, arith}
use Rattle.tfs_spec.specs.Layout.{View}
use Rattle.tfs_spec.specs.Consistent.{Broken, short, unmagical, unlabelled, malformed, repeated, oversized, misnumbered, twice, unmarked, stray}
use Rattle.tfs_spec.specs.Requests.{Answer, done, value, transferred, unused, file, refused, Change}
use Rattle.tfs_spec.specs.Answers as rule
use Rattle.tfs_spec.specs.Answers.{FindRule, CreateRule, TransferRule, ListRule, ChangeRule, FetchRule}

abbrev pub Numbered : Answer → Type 0
Numbered done = Unit {0}
Numbered (value x) = Unit {0}
Numbered (transferred c m) = Unit {0}
Numbered unused = Unit {0}
Numbered (file nm i z) = Unit {0}
Numbered (refused num p) = (1 ≤ num) × ((num ≤ 15) ⊎ (num ≡ 32)) × (8 ≤ num → p ≡ 0)

-- and neither 14 nor 32
abbrev pub Other : Answer → Type 0
Other done = Unit {0}
Other (value x) = Unit {0}
Other (transferred c m) = Unit {0}
Other unused = Unit {0}
Other (file nm i z) = Unit {0}
Other (refused num p) = ((1 ≤ num) × ((num ≤ 15) ⊎ (num ≡ 32)) × (8 ≤ num → p ≡ 0)) × (num ≢ 14) × (num ≢ 32)

pub other-numbered : (a : Answer) → Other a → Numbered a
other-numbered done w = tt
other-numbered (value x) w = tt
other-numbered (transferred c m) w = tt
other-numbered unused w = tt
other-numbered (file nm i z) w = tt
other-numbered (refused num p) w = w.0

-- ---- each table
-- a refusal of the check, with its place, and one of the request
fault : (num p : ℕ) → 1 ≤ num → num ≤ 7 → Other (refused num p)
fault num p l h = ((omega arith, inl (omega arith), λ k. absurd (omega arith)), (λ e. omega arith), λ e. omega arith)

refusal : (num : ℕ) → 1 ≤ num → num ≤ 15 → num ≢ 14 → Other (refused num 0)
refusal num l h d = ((l, inl h, λ _. refl), d, λ e. omega arith)

pub broken-other : (B : ℕ) (img : List ℕ) (num p : ℕ) → Broken B img num p → Other (refused num p)
broken-other B img _ _ (short h) = fault 1 0 (omega arith) (omega arith)
broken-other B img _ _ (unmagical h) = fault 2 0 (omega arith) (omega arith)
broken-other B img _ _ (unlabelled h) = fault 3 0 (omega arith) (omega arith)
broken-other B img _ _ (malformed s f h) = fault 4 s (omega arith) (omega arith)
broken-other B img _ _ (repeated s t f g l w) = fault 4 s (omega arith) (omega arith)
broken-other B img _ _ (oversized s f h) = fault 5 s (omega arith) (omega arith)
broken-other B img _ _ (misnumbered s k f l w) = fault 5 s (omega arith) (omega arith)
broken-other B img _ _ (twice b o q l d x y) = fault 6 b (omega arith) (omega arith)
broken-other B img _ _ (unmarked b l n w) = fault 7 b (omega arith) (omega arith)
broken-other B img _ _ (stray b l t w) = fault 7 b (omega arith) (omega arith)

pub find-other : (B : ℕ) (v : View) (nm : List ℕ) (own : ℕ → Answer → Type 0) → ((s : ℕ) (a : Answer) → own s a → Other a) → (a : Answer) → FindRule B v nm own a → Other a
find-other B v nm own g _ (rule.misnamed h) = refusal 8 (omega arith) (omega arith) (λ e. omega arith)
find-other B v nm own g _ (rule.absent r none) = refusal 13 (omega arith) (omega arith) (λ e. omega arith)
find-other B v nm own g _ (rule.found s a r st w) = g s a w

pub create-other : (B : ℕ) (v : View) (nm : List ℕ) (z : ℕ) (a : Answer) → CreateRule B v nm z a → Other a
create-other B v nm z _ (rule.unnamed h) = refusal 8 (omega arith) (omega arith) (λ e. omega arith)
create-other B v nm z _ (rule.oversized r h) = refusal 9 (omega arith) (omega arith) (λ e. omega arith)
create-other B v nm z _ (rule.standing s r k st) = refusal 10 (omega arith) (omega arith) (λ e. omega arith)
create-other B v nm z _ (rule.full r k f none) = refusal 11 (omega arith) (omega arith) (λ e. omega arith)
create-other B v nm z _ (rule.cramped s r k f w h) = refusal 12 (omega arith) (omega arith) (λ e. omega arith)
create-other B v nm z _ (rule.created s h r k f w room low) = tt

pub transfer-other : (B : ℕ) (v : View) (o len s : ℕ) (a : Answer) → TransferRule B v o len s a → Other a
transfer-other B v o len s _ (rule.beyond l) = refusal 15 (omega arith) (omega arith) (λ e. omega arith)
transfer-other B v o len s _ (rule.moved c m l e w) = tt

-- list's: not 32
abbrev pub ListTold : Answer → Type 0
ListTold a = Numbered a × ((p : ℕ) → a ≢ refused 32 p)

pub list-told : (B : ℕ) (v : View) (s : ℕ) (a : Answer) → ListRule B v s a → ListTold a
list-told B v s _ (rule.outside l) = ((omega arith, inl (omega arith), λ _. refl), λ p e. (let z : ◌≡◌ {A = ℕ} 14 32 = cc in omega arith))
list-told B v s _ (rule.vacant f) = (tt, λ p e. (let z : ◌≡◌ {A = ℕ} 0 1 = cc in omega arith))
list-told B v s _ (rule.holds f) = (tt, λ p e. (let z : ◌≡◌ {A = ℕ} 0 1 = cc in omega arith))

-- the request's own refusals, and 32
pub data Stored : Answer → Type 0 where
  other : (a : Answer) → Other a → Stored a
  unfetched : Stored (refused 32 0)

pub fetch-stored : (B : ℕ) (v : View) (c : Change) (k : ℕ) (buf : List ℕ) → ((a : Answer) → ChangeRule B v c a → Other a) → (a : Answer) → FetchRule B v c k buf a → Stored a
fetch-stored B v c k buf own _ (rule.own num p r) = other (refused num p) (own (refused num p) r)
fetch-stored B v c k buf own _ (rule.unfetched a r g why) = unfetched
fetch-stored B v c k buf own _ (rule.fetched a b r g l h room w) = other (value b) tt

pub stored-numbered : (a : Answer) → Stored a → Numbered a
stored-numbered _ (other a w) = other-numbered a w
stored-numbered _ unfetched = (omega arith, inr refl, λ _. refl)

pub stored-14 : (a : Answer) → Stored a → (p : ℕ) → a ≡ refused 14 p → ⊥
stored-14 _ (other a w) p e = (subst Other e w).1 refl
stored-14 _ unfetched p e = let z : ◌≡◌ {A = ℕ} 32 14 = cc in omega arith
