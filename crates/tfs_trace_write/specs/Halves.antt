-- A record as two halves, each a number and up to three fields: what was asked, and what was answered.
use Rattle.std.specs.Prelude.{◌≡◌, refl, Bool, true, false, cond, ◌&&◌, ℕ, ◌+◌, ◌≤◌, ◌<◌, List, [], ◌++◌, length, ltb, eqb}
use Rattle.std.proofs.Common.{ap, ◌∙◌, arith, ltb-true, append_assoc, length-append}
use Rattle.tfs_trace_write.specs.Puts.{put, put_behind}
use Rattle.tfs_spec.specs.Traces.{number, string}
use Rattle.tfs_trace_write.specs.declared.Draft.{Draft}
use Rattle.tfs_trace_write.specs.declared.Draft.TheVariants as draft
use Rattle.tfs_trace_write.specs.declared.Field.{Field}
use Rattle.tfs_trace_write.specs.declared.Field.TheVariants.{Nothing, Number, Name, Bytes}
use Rattle.tfs_trace_write.specs.declared.Half.{Half}

abbrev pub half : ℕ → Field → Field → Field → Half
half n x y z = record { head = n; first = x; second = y; third = z }

-- ---- what a record has
abbrev pub call_half : Draft → Half
call_half (draft.Create size) = half 1 Name (Number size) Nothing
call_half draft.Remove = half 2 Name Nothing Nothing
call_half (draft.Read offset len) = half 3 Name (Number offset) (Number len)
call_half (draft.Write offset) = half 4 Name (Number offset) Bytes
call_half draft.Free = half 5 Nothing Nothing Nothing

abbrev pub granted_field : Draft → ℕ → Field
granted_field (draft.Create size) v = Nothing
granted_field draft.Remove v = Nothing
granted_field (draft.Read offset len) v = Bytes
granted_field (draft.Write offset) v = Number v
granted_field draft.Free v = Number v

abbrev pub result_field : Draft → ℕ → ℕ → Field
result_field d num v = cond (eqb num 0) (granted_field d v) Nothing

abbrev pub expected_half : Draft → ℕ → ℕ → Half
expected_half d num v = half num (result_field d num v) Nothing Nothing

-- ---- its numbers and its length, for a name and bytes of lengths m and k
abbrev pub field_number : Field → ℕ → ℕ → ℕ
field_number Nothing m k = 0
field_number (Number n) m k = n
field_number Name m k = m
field_number Bytes m k = k

abbrev field_fits : Field → ℕ → ℕ → Bool
field_fits f m k = ltb (field_number f m k) 4294967296

abbrev pub half_fits : Half → ℕ → ℕ → Bool
half_fits h m k = ltb h.head 4294967296 && (field_fits h.first m k && (field_fits h.second m k && field_fits h.third m k))

abbrev pub field_size : Field → ℕ → ℕ → ℕ
field_size Nothing m k = 0
field_size (Number n) m k = length (number n)
field_size Name m k = length (number m) + m
field_size Bytes m k = length (number k) + k

abbrev pub half_size : Half → ℕ → ℕ → ℕ
half_size h m k = length (number h.head) + field_size h.first m k + field_size h.second m k + field_size h.third m k

-- ---- its bytes
abbrev pub field_bytes : Field → List ℕ → List ℕ → List ℕ
field_bytes Nothing nm bs = []
field_bytes (Number n) nm bs = number n
field_bytes Name nm bs = string nm
field_bytes Bytes nm bs = string bs

abbrev pub half_bytes : Half → List ℕ → List ℕ → List ℕ
half_bytes h nm bs = number h.head ++ (field_bytes h.first nm bs ++ (field_bytes h.second nm bs ++ field_bytes h.third nm bs))

-- ---- laws
pub length-field : (f : Field) (nm bs : List ℕ) → length (field_bytes f nm bs) ≡ field_size f (length nm) (length bs)
length-field Nothing nm bs = refl
length-field (Number n) nm bs = refl
length-field Name nm bs = length-append (number (length nm)) nm
length-field Bytes nm bs = length-append (number (length bs)) bs

pub length-half : (h : Half) (nm bs : List ℕ) → length (half_bytes h nm bs) ≡ half_size h (length nm) (length bs)
length-half h nm bs = simp (length-append, length-field) (omega arith)

both_true : (a b : Bool) → a && b ≡ true → (a ≡ true) × (b ≡ true)
both_true true b e = (refl, e)
both_true false b e = let z : ◌≡◌ {A = ℕ} 0 1 = cc in absurd (omega arith)

-- what the numbers of the fields are below, if they fit
pub record Below (h : Half) (m k : ℕ) : Type 0 where
  pub first : field_number h.first m k < 4294967296
  pub second : field_number h.second m k < 4294967296
  pub third : field_number h.third m k < 4294967296

pub below : (h : Half) (m k : ℕ) → half_fits h m k ≡ true → Below h m k
below h m k e =
    let y : Bool = field_fits h.second m k in
    let z : Bool = field_fits h.third m k in
    let a = both_true (ltb h.head 4294967296) (field_fits h.first m k && (y && z)) e in
    let b = both_true (field_fits h.first m k) (y && z) a.1 in
    let c = both_true y z b.1 in
    record { first = ltb-true _ _ b.0; second = ltb-true _ _ c.0; third = ltb-true _ _ c.1 }

-- a half put field by field
module _ (h : Half) (nm bs : List ℕ) (at a b c : ℕ) (s t u v w : List ℕ) (room : at ≤ length s) where
  pub put-half : a ≡ at + length (number h.head) → t ≡ put at (number h.head) s
      → b ≡ a + field_size h.first (length nm) (length bs) → u ≡ put a (field_bytes h.first nm bs) t
      → c ≡ b + field_size h.second (length nm) (length bs) → v ≡ put b (field_bytes h.second nm bs) u
      → w ≡ put c (field_bytes h.third nm bs) v → w ≡ put at (half_bytes h nm bs) s
  put-half ea et eb eu ec ev ew =
      let n : List ℕ = number h.head in
      let x : List ℕ = field_bytes h.first nm bs in
      let y : List ℕ = field_bytes h.second nm bs in
      let z : List ℕ = field_bytes h.third nm bs in
      let one = put_behind at a n x s t u room et ea eu in
      let to-b : b ≡ at + length (n ++ x) = simp length-append (omega (arith, length-field h.first nm bs)) in
      let two = put_behind at b (n ++ x) y s u v room one to-b ev in
      let to-c : c ≡ at + length ((n ++ x) ++ y) = simp length-append (omega (arith, length-field h.first nm bs, length-field h.second nm bs)) in
      put_behind at c ((n ++ x) ++ y) z s v w room two to-c ew ∙ ap (λ (l : List ℕ). put at l s) (simp append_assoc)
