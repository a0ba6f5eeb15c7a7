-- One store, and the answer of a request for it.
use Rattle.std.specs.Prelude.{◌≡◌, true, false, ◌||◌, ℕ, ◌-◌, List, ◌++◌, length, take, drop, ltb, eqb}
use Rattle.std.proofs.Common.{ap, ◌∙◌, arith, length-drop, take_all}
use Rattle.std.proofs.Math.Path.{sym}
use Rattle.tfs_spec.specs.Requests.{Answer, value, refused, granted, Outcome, Store, store, kth}
use Rattle.tfs_facts.specs.Fetched.{given, given-none, given-one}

-- a store, by its bytes
pub stored : (x : Store) (b : ℕ) (bytes out : List ℕ) → x ≡ store b bytes → out ≡ bytes → store b out ≡ x
stored x b bytes out e p = ap (store b) p ∙ sym e

-- the blocks after the first, as code takes them
pub rest-is : (bs : List ℕ) → take (length bs - 1) (drop 1 bs) ≡ drop 1 bs
rest-is bs = take_all (length bs - 1) (drop 1 bs) (simp length-drop (omega arith))

-- an outcome that is given of the n stores xs, which are granted, and what the code answers
module _ (r : Outcome) (img : List ℕ) (a : Answer) (xs : List Store) (k : ℕ) (buf : List ℕ) (is : r ≡ given 512 img a xs k buf) (n : ℕ) (many : n ≡ length xs) (grant : granted a ≡ true) where
  pub none_so : (eqb k 0 || (ltb n k || ltb (length buf) 512)) ≡ true → (refused 32 0 ≡ r.answer) × (buf ≡ r.buffer)
  none_so t =
      let g = given-none 512 img a xs k buf n many grant t in
      (g.0 ∙ ap (λ (o : Outcome). o.answer) (sym is), g.1 ∙ ap (λ (o : Outcome). o.buffer) (sym is))

  pub one_so : (eqb k 0 || (ltb n k || ltb (length buf) 512)) ≡ false → (b : ℕ) (out : List ℕ) → store b out ≡ kth k xs → (value b ≡ r.answer) × (out ++ drop 512 buf ≡ r.buffer)
  one_so t b out e =
      let g = given-one 512 img a xs k buf n many grant t b out (ap (λ (x : Store). x.at) e) (ap (λ (x : Store). x.bytes) e) in
      (g.0 ∙ ap (λ (o : Outcome). o.answer) (sym is), g.1 ∙ ap (λ (o : Outcome). o.buffer) (sym is))
