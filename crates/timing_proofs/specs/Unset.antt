-- Files that have no values for anybody.
use Rattle.std.specs.Prelude.{refl, Bool, not, cond, ℕ, List, ◌++◌, length, drop, T}
use Rattle.std.proofs.Common.{sym, subst, ◌∙◌, inl, inr, arith}
use Rattle.std.proofs.Math.Option.{Option, none, some, map}
use Rattle.lists.specs.Lists.{zeros}
use Rattle.list_laws.specs.Test.{by-test, cond_yes, cond_no, zeros-byte}
use Rattle.tfs_spec.specs.Layout.{BlockSize, same_name}
use Rattle.tfs_spec.specs.Requests.{granted}
use Rattle.tfs_spec.specs.Laws.{Statements}
use Rattle.timing_spec.specs.Timing.{TIMING, standing, open_lid, boot_on, boot}
use Rattle.timing_spec.specs.Laws.{NoValues, Unset}
use Rattle.timing_proofs.specs.Verdicts.{by-check, fault-law, boot-by}
use Rattle.timing_proofs.specs.Rules.{by_number, no-board, other-size}
use Rattle.timing_proofs.specs.Effects.{opened}

pub unset-boot : (old : Option (List ℕ)) → Unset old → (board maker : ℕ) → NoValues (boot_on old board maker)
unfolding boot_on
unset-boot none d board maker = (13, 0, refl)
unset-boot (some bytes) (inl f) board maker = (35, 0, other-size bytes board maker f)
unset-boot (some bytes) (inr z) board maker =
    by_number (length bytes) 64 (λ long. (34, 0, no-board bytes board maker long z)) (λ f. (35, 0, other-size bytes board maker f))

-- zeros, and bytes of which the first four are zeros
pub unset-zeros : (n : ℕ) → Unset (some (zeros n))
unset-zeros n = inr (omega (arith, zeros-byte n 0, zeros-byte n 1, zeros-byte n 2, zeros-byte n 3))

pub unset-opened : (old : Option (List ℕ)) → Unset (map (λ old. zeros 4 ++ drop 4 old) old)
unset-opened none = tt
unset-opened (some bytes) = inr refl

pub unset-if : (b : Bool) (x y : Option (List ℕ)) → (T b → Unset x) → (T (not b) → Unset y) → Unset (cond b x y)
unset-if b x y f g = by-test b (λ t. subst Unset (sym (cond_yes b x y t)) (f t)) (λ t. subst Unset (sym (cond_no b x y t)) (g t))

module _ (book : Statements) (B : ℕ) (sz : BlockSize B) (img : List ℕ) where
  -- on every volume
  pub unset-boots : Unset (standing B img) → (board maker : ℕ) → NoValues (boot B img board maker)
  unset-boots d board maker =
      by-check book B sz img (λ ok. subst NoValues (sym (boot-by book B sz img ok board maker)) (unset-boot (standing B img) d board maker))
      (λ num p fault. (num, p, (fault-law book B sz img num p fault).boot board maker))

  pub unset-after-opening : T (granted (open_lid B img).answer) → Unset (standing B (open_lid B img).image)
  unset-after-opening g =
      subst Unset (sym (opened book B sz img g TIMING ∙ cond_yes (same_name TIMING TIMING) _ _ (book.name-laws.itself TIMING))) (unset-opened (standing B img))
