-- What is known where an offset or a list is found, and where there is none.
use Rattle.std.specs.Prelude.{◌≡◌, ℕ, Bool, true, false, Some, None, cond, eqb, List}
use Rattle.std.proofs.Math.Path.{refl}
use Rattle.std.proofs.Common.{sym, ap, ◌∙◌}
use Rattle.std.proofs.lemmas.Option.{none-some, same_Some}
use borrow.Author.Tests.{eqb-true, eqb-false}
use Rattle.romfs_spec.specs.Layout.{info, own, has_list}
use Rattle.romfs_headers.specs.declared.header.List as headers
use Rattle.romfs_headers.specs.Known.{some_unless, list_of}

module _ (none n : ℕ) where
  pub some-is : {x : ℕ} → Some x ≡ some_unless none n → (x ≡ n) × (x ≡ none → ⊥)
  some-is {x} e = go (eqb n none) refl e
    where
      go : (b : Bool) → eqb n none ≡ b → Some x ≡ cond b None (Some n) → (x ≡ n) × (x ≡ none → ⊥)
      go true f h = absurd (none-some x (sym h))
      go false f h = let k = same_Some x n h in (k, λ z. eqb-false n none f (sym k ∙ z))

  pub none-is : None ≡ some_unless none n → n ≡ none
  none-is e = go (eqb n none) refl e
    where
      go : (b : Bool) → eqb n none ≡ b → None ≡ cond b None (Some n) → n ≡ none
      go true f h = eqb-true n none f
      go false f h = absurd (none-some n h)

module _ (s : List ℕ) (bound p : ℕ) where
  abbrev it : headers.List
  it = record { first = info s p; bound = own s bound p }

  pub list-some : {l : headers.List} → Some l ≡ list_of s bound p → (has_list s p ≡ true) × (l.first ≡ info s p) × (l.bound ≡ own s bound p)
  list-some {l} e = go (has_list s p) refl e
    where
      go : (b : Bool) → has_list s p ≡ b → Some l ≡ cond b (Some it) None → (has_list s p ≡ true) × (l.first ≡ info s p) × (l.bound ≡ own s bound p)
      go true f h = let k = same_Some l it h in (f, ap (λ (x : headers.List). x.first) k, ap (λ (x : headers.List). x.bound) k)
      go false f h = absurd (none-some l (sym h))

  pub list-none : None ≡ list_of s bound p → has_list s p ≡ false
  list-none e = go (has_list s p) refl e
    where
      go : (b : Bool) → has_list s p ≡ b → None ≡ cond b (Some it) None → has_list s p ≡ false
      go true f h = absurd (none-some it h)
      go false f h = f
