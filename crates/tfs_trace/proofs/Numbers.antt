-- Groups read by what stands at a position; and a kind, which takes one byte.
use Rattle.std.specs.Prelude.{◌≡◌, refl, ◌⊎◌, Bool, true, false, cond, ℕ, zero, suc, ◌+◌, ◌-◌, ◌*◌, ◌≤◌, ◌<◌, List, [], ◌∷◌, length, get_or, take, drop, ltb, eqb, Option, Some, None, Result, Ok, Err, IfSome}
use Rattle.std.specs.Result.{result_ok}
use Rattle.std.proofs.Common.{sym, ◌∙◌, arith, sub-one, lt-ltb, le-ltb, ne_eqb, inl, inr, length-drop, take_all}
use Rattle.std.proofs.Math.Seq.{get_or-drop}
use Rattle.std.proofs.Math.Nat.{add-zero}
use Rattle.std.proofs.lemmas.Bool.{eqb-false}
use Rattle.tfs_spec.specs.Traces.{Parsed, parsed, malformed, followed, join_groups, read_groups, read_number}
use Rattle.tfs_facts.specs.Forward.{never, same_next, same-what, Forward, number-forward}
use Rattle.tfs_trace.specs.declared.kind.Kind.{Kind}
use Rattle.tfs_trace.specs.declared.kind.Kind.TheVariants.{Create, Remove, Read, Write, Free}
use Rattle.tfs_trace.specs.declared.kind.UnknownKind.{UnknownKind}
use Rattle.tfs_trace.specs.Kind.{number_of, Decodes}
use Rattle.tfs_trace.specs.Told.{number_told}

pub groups_none : (f at : ℕ) (l : List ℕ) → (f ≡ 0) ⊎ (length l ≡ 0) → malformed ≡ read_groups f at l
unfolding read_groups
groups_none zero at l z = refl
groups_none (suc f) at [] z = refl
groups_none (suc f) at (x ∷ l) (inl z) = absurd (omega arith)
groups_none (suc f) at (x ∷ l) (inr z) = absurd (omega arith)

-- a last group
pub groups_last : (f at : ℕ) (l : List ℕ) → (f ≡ 0 → ⊥) → 0 < length l → get_or l 0 0 < 128 → parsed (get_or l 0 0) (at + 1) ≡ read_groups f at l
unfolding read_groups
groups_last zero at l z h low = absurd (z refl)
groups_last (suc f) at [] z h low = absurd (omega arith)
groups_last (suc f) at (x ∷ l) z h low = rw (lt-ltb _ _ low)

-- a group with others above it, in the part behind it, of which p is read
pub groups_more : (f at : ℕ) (l : List ℕ) (p : Parsed ℕ) → (f ≡ 0 → ⊥) → 0 < length l → 128 ≤ get_or l 0 0 → p ≡ read_groups (f - 1) (at + 1) (take (length l - 1) (drop 1 l)) → followed p (join_groups (get_or l 0 0 - 128)) ≡ read_groups f at l
unfolding read_groups
groups_more zero at l p z h m e = absurd (z refl)
groups_more (suc f) at [] p z h m e = absurd (omega arith)
groups_more (suc f) at (x ∷ l) p z h m e = rw (e, le-ltb _ _ m, sub-one, take_all (length (x ∷ l) - 1) l (omega arith))

-- they are worth high, which is too low or too high, or fits
joined_wrong : (low high next : ℕ) → (0 < high → high < 33554432 → ⊥) → join_groups low high next ≡ malformed
joined_wrong low zero next h = refl
joined_wrong low (suc high) next h = rw (ne_eqb (suc high) 0 (λ z. omega arith), le-ltb (suc high * 128 + low) 4294967296 (omega arith))

joined_right : (low high next : ℕ) → 1 ≤ high → high < 33554432 → low < 128 → join_groups low high next ≡ parsed (high * 128 + low) next
joined_right low high next one small h = rw (ne_eqb high 0 (λ z. omega arith), lt-ltb (high * 128 + low) 4294967296 (omega arith))

module _ (f at : ℕ) (l : List ℕ) (high next : ℕ) (some : f ≡ 0 → ⊥) (long : 0 < length l) (more : 128 ≤ get_or l 0 0) (e : parsed high next ≡ read_groups (f - 1) (at + 1) (take (length l - 1) (drop 1 l))) where
  pub groups_wrong : (0 < high → high < 33554432 → ⊥) → malformed ≡ read_groups f at l
  groups_wrong h = sym (joined_wrong _ high next h) ∙ groups_more f at l (parsed high next) some long more e

  pub groups_joined : 1 ≤ high → high < 33554432 → get_or l 0 0 < 256 → parsed (high * 128 + (get_or l 0 0 - 128)) next ≡ read_groups f at l
  groups_joined one small byte = sym (joined_right _ high next one small (omega arith)) ∙ groups_more f at l (parsed high next) some long more e

-- the rest of a trace from a position on; and a number of one byte there
pub rest_of : (t : List ℕ) (at : ℕ) → take (length t - at) (drop at t) ≡ drop at t
rest_of t at = take_all (length t - at) (drop at t) (simp length-drop (omega arith))

pub first_last : (t : List ℕ) (at : ℕ) → at < length t → get_or t at 0 < 128 → parsed (get_or t at 0) (at + 1) ≡ read_groups 5 at (drop at t)
first_last t at h low =
    let same : get_or (drop at t) 0 0 ≡ get_or t at 0 = get_or-drop at t 0 0 ∙ rw add-zero in
    rw same at (groups_last 5 at (drop at t) (λ z. omega arith) (simp length-drop (omega arith)) (rw same low))

-- what is told of a number lies in the trace
pub told_forward : (t : List ℕ) (at : ℕ) (r : Option (ℕ × ℕ)) → number_told r ≡ read_number t at → IfSome r (λ x. Forward t at x.1)
told_forward t at (Some x) e = number-forward t at x.0 x.1 (sym e)
told_forward t at None e = tt

-- a number below 128 takes one byte
low-not : (high low n : ℕ) → (high ≡ 0 → ⊥) → n < 128 → high * 128 + low ≡ n → ⊥
low-not zero low n z h s = z refl
low-not (suc high) low n z h s = omega arith

one-group : (f at : ℕ) (l : List ℕ) (n next : ℕ) → n < 128 → read_groups f at l ≡ parsed n next → next ≡ at + 1
unfolding read_groups
one-group zero at l n next h e = absurd (never e)
one-group (suc f) at [] n next h e = absurd (never e)
one-group (suc f) at (g ∷ l) n next h e = by (ltb g 128) (read_groups f (at + 1) l) e
  where
    by : (b : Bool) (p : Parsed ℕ) → cond b (parsed g (at + 1)) (followed p (join_groups (g - 128))) ≡ parsed n next → next ≡ at + 1
    by true p e = sym (same_next e)
    by false malformed e = absurd (never e)
    by false (parsed high k) e = above (eqb high 0) (ltb (high * 128 + (g - 128)) 4294967296) refl e
      where
        above : (a b : Bool) → eqb high 0 ≡ a → cond a malformed (cond b (parsed (high * 128 + (g - 128)) k) malformed) ≡ parsed n next → next ≡ at + 1
        above true b z e = absurd (never e)
        above false false z e = absurd (never e)
        above false true z e = let s : high * 128 + (g - 128) ≡ n = same-what e in absurd (low-not high (g - 128) n (eqb-false high 0 z) h s)

pub number-one : (t : List ℕ) (at n next : ℕ) → n < 128 → read_number t at ≡ parsed n next → next ≡ at + 1
unfolding read_number
number-one t at n next h e = one-group 5 at (drop at t) n next h e

-- a kind that was read is of one byte
one_byte : (k : Kind) → number_of k < 128
one_byte Create = omega arith
one_byte Remove = omega arith
one_byte Read = omega arith
one_byte Write = omega arith
one_byte Free = omega arith

pub kind_one : (t : List ℕ) (at n next : ℕ) (k : Kind) (r : Result Kind UnknownKind) → parsed n next ≡ read_number t at → Decodes n r → Some k ≡ result_ok r → next ≡ at + 1
kind_one t at n next k (Ok x) e d s = number-one t at n next (let same : k ≡ x = cc in let low = one_byte x in omega arith) (sym e)
kind_one t at n next k (Err x) e d s = let no : ⊥ = cc in absurd no
