-- Bytes stored by runs.
use Rattle.std.specs.Prelude.{◌≡◌, refl, ℕ, suc, ◌+◌, ◌-◌, ◌≤◌, ◌<◌, List, [], ◌∷◌, ◌++◌, length, set, take, drop}
use Rattle.std.proofs.Common.{sym, ap, ◌∙◌, append_assoc, arith, add-zero, drop-drop, length-take-le, take-add, take-take}
use Rattle.std.proofs.Math.Nat.{sub-zero}
use Rattle.std.proofs.lemmas.List.Edits.{sets, sets-eq}
use Rattle.lists.specs.Lists.{with_part, store_bytes}
use Rattle.list_laws.specs.Store.{store-join}
use Rattle.tfs_runs.specs.Place.{at, Straight}

sets-store : (a : ℕ → ℕ) (bs img : List ℕ) (o s : ℕ) → ((i : ℕ) → i < length bs → a (o + i) ≡ s + i) → store_bytes a img o bs ≡ sets img s bs
sets-store a [] img o s h = refl
sets-store a (b ∷ bs) img o s h =
    let e : a o ≡ s = ap a (sym (add-zero o)) ∙ h 0 (omega arith) ∙ add-zero s in
    rw e (sets-store a bs (set img s b) (suc o) (suc s) (λ i l. ap a (omega arith) ∙ h (suc i) (omega arith) ∙ omega arith))

-- bytes stored at addresses one after another are one part put
pub store-run : (a : ℕ → ℕ) (bs img : List ℕ) (o s : ℕ) → ((i : ℕ) → i < length bs → a (o + i) ≡ s + i) → s + length bs ≤ length img → store_bytes a img o bs ≡ with_part s (length bs) bs img
unfolding with_part
store-run a bs img o s h l = sets-store a bs img o s h ∙ sets-eq bs img s l ∙ rw (append_assoc, drop-drop)

-- a run of the file is one part put
pub write-run : (img ino src last : List ℕ) (p s r n : ℕ) → s ≡ at ino p → Straight ino p r → s + r ≤ length img → r ≤ length src → n ≡ r → last ≡ take (r - 0) src → take s img ++ (last ++ drop n (drop s img)) ≡ store_bytes (at ino) img p (take r src)
unfolding with_part
write-run img ino src last p s r n e near l k m t =
    let long : length (take r src) ≡ r = length-take-le r src k in
    rw (t, sub-zero, m)
    (sym (rw long at (store-run (at ino) (take r src) img p s (λ i j. near i (omega (arith, long)) ∙ ap (λ (x : ℕ). x + i) (sym e)) (omega (arith, long)))))

-- one more run behind the d bytes stored, of the n bytes that follow them
pub write-turn : (a : ℕ → ℕ) (img buf old last : List ℕ) (o d r n : ℕ) → d ≤ length buf → r ≤ n → old ≡ store_bytes a img o (take d buf) → last ≡ store_bytes a old (o + d) (take r (take n (drop d buf))) → last ≡ store_bytes a img o (take (d + r) buf)
write-turn a img buf old last o d r n h k e t =
    let long : length (take d buf) ≡ d = length-take-le d buf h in
    rw (t, e, take-take r n (drop d buf) k, take-add d r buf) (rw long at (store-join a (take d buf) (take r (drop d buf)) img o))
