-- Write: exactly the covered bytes of exactly its file change.
use Rattle.std.specs.Prelude.{◌≡◌, refl, ◌≢◌, Bool, not, cond, ◌&&◌, ℕ, ◌+◌, ◌-◌, ◌≤◌, ◌<◌, List, T, leb, eqb}
use Rattle.std.proofs.Common.{sym, ap, ◌∙◌, subst, arith, length-take, leb→le, ltb→lt, le→leb, lt→ltb, T_not}
use Rattle.std.proofs.Math.Option.{none, some, map}
use Rattle.std.proofs.Math.ListN.{length, get_or}
use Rattle.std.proofs.Math.Dec.{ltb}
use Rattle.list_laws.specs.Test.{by-test, cond_yes, cond_no, iff-eq, and-of, and_l, and_r, no-and, neqb-of}
use Rattle.list_laws.specs.Table.{table-cong}
use Rattle.tfs_spec.specs.Layout.{slots, same_name, View, view, name, size, slot_of, place, content, contents}
use Rattle.tfs_spec.specs.Consistent.{File, Sound}
use Rattle.tfs_facts.specs.CheckMeans.{same-sym}
use Rattle.tfs_proofs.specs.Content.{standing, contents-at, contents-in, standing-map, content-by}
use Rattle.tfs_proofs.specs.Writes.{put, effect, step, covers, covered, uncovered, Covered, step-byte}
use Rattle.tfs_proofs.specs.Places.{files_of, laid, view-kept}
use Rattle.tfs_facts.specs.Names.{slot-hit, slot_is}
use Rattle.tfs_spec.specs.Effects.{change, over}

module _ (B : ℕ) (pos : 0 < B) (img : List ℕ) (ok : Sound B (view B img)) (s : ℕ) (f : File B (view B img) s) (o : ℕ) (bs : List ℕ) where
  abbrev v : View
  v = view B img

  abbrev new : List ℕ
  new = step (files_of B v) img (put s o bs)

  abbrev pub within : ℕ → Bool
  within p = leb o p && ltb p (o + length bs)

  pub covers-within : (p : ℕ) → p < size v s → covers (files_of B v) (put s o bs) s p ≡ within p
  covers-within p l =
      iff-eq (covers (files_of B v) (put s o bs) s p) (within p)
      (λ t.
      let c : Covered (files_of B v) (put s o bs) s p = covered (files_of B v) (put s o bs) s p t in
      and-of (leb o p) (ltb p (o + length bs)) (le→leb o p c.from) (lt→ltb p (o + length bs) (omega (arith, c.upto, length-take (size v s - o) bs))))
      (λ t.
      let a : o ≤ p = leb→le o p (and_l (leb o p) _ t) in
      let b : p < o + length bs = ltb→lt p (o + length bs) (and_r (leb o p) _ t) in
      uncovered (files_of B v) (put s o bs) s p (record { file = refl; from = a; upto = omega (arith, length-take (size v s - o) bs) }))

  -- the file written to
  content-written : content B v new s ≡ over o bs (content B v img s)
  content-written =
      content-by B v new img s (λ p x. cond (within p) (get_or bs (p - o) 0) x)
      (λ p l.
      step-byte (files_of B v) s p l img (put s o bs) (laid B pos img ok)
      ∙ ap (λ (c : Bool). cond c (get_or bs (p - o) 0) (get_or img (place B v s p) 0)) (covers-within p l))

  -- another file
  content-kept : (t : ℕ) → t ≢ s → content B v new t ≡ content B v img t
  unfolding content
  content-kept t d =
      table-cong (λ p. get_or new (place B v t p) 0) (λ p. get_or img (place B v t p) 0) 0 (size v t)
      (λ p a l.
      step-byte (files_of B v) t p (omega arith) img (put s o bs) (laid B pos img ok)
      ∙ cond_no (covers (files_of B v) (put s o bs) t p) (get_or bs (p - o) 0) (get_or img (place B v t p) 0)
      (no-and (eqb s t) (leb o p && ltb p (o + length (effect (files_of B v) (put s o bs)))) (neqb-of s t (λ e. d (sym e)))))

  pub write-contents : (j : List ℕ) → contents B new j ≡ change (name v s) (map (over o bs)) (contents B img) j
  write-contents j =
      contents-in B new img j (view-kept B pos img ok (put s o bs))
      ∙ by-test (same_name j (name v s)) here there
    where
      here : T (same_name j (name v s)) → standing B v new (slot_of B v j) ≡ change (name v s) (map (over o bs)) (contents B img) j
      here t =
          let e : slot_of B v j ≡ s = slot_is B v j ok.apart s f (same-sym j (name v s) t) in
          ap (standing B v new) e
          ∙ standing-map B v new img s (over o bs) content-written
          ∙ ap (λ (x : ℕ). map (over o bs) (standing B v img x)) (sym e)
          ∙ ap (map (over o bs)) (sym (contents-at B img j))
          ∙ sym (cond_yes (same_name j (name v s)) (map (over o bs) (contents B img j)) (contents B img j) t)

      there : T (not (same_name j (name v s))) → standing B v new (slot_of B v j) ≡ change (name v s) (map (over o bs)) (contents B img) j
      there t =
          by-test (ltb (slot_of B v j) (slots B))
          (λ l.
          let h = slot-hit B v j (ltb→lt (slot_of B v j) (slots B) l) in
          let d : slot_of B v j ≢ s = λ e. T_not (same_name j (name v s)) t (same-sym (name v s) j (subst (λ (x : ℕ). T (same_name (name v x) j)) e h.1)) in
          ap (λ (c : List ℕ). cond (ltb (slot_of B v j) (slots B)) (some c) none) (content-kept (slot_of B v j) d))
          (λ l.
          cond_no (ltb (slot_of B v j) (slots B)) (some (content B v new (slot_of B v j))) none l
          ∙ sym (cond_no (ltb (slot_of B v j) (slots B)) (some (content B v img (slot_of B v j))) none l))
          ∙ sym (contents-at B img j)
          ∙ sym (cond_no (same_name j (name v s)) (map (over o bs) (contents B img j)) (contents B img j) t)
