-- On a sound volume the places of all files' bytes are apart, and a write to a file keeps the view.
use Rattle.std.specs.Prelude.{◌≡◌, refl, ◌≢◌, ℕ, ◌+◌, ◌*◌, ◌/◌, ◌%◌, ◌<◌, min, List, length}
use Rattle.std.proofs.Math.Path.{sym}
use Rattle.std.proofs.Common.{ap, ◌∙◌, subst, arith}
use Rattle.list_laws.specs.Test.{by-test}
use Rattle.list_laws.specs.Part.{part_ext}
use Rattle.tfs_spec.specs.Layout.{slots, need, blocks, block, View, view, free, inode, size, number, place}
use Rattle.tfs_spec.specs.Consistent.{File, inode_of, content_of, Owns, Inside, Sound}
use Rattle.tfs_facts.specs.Sizes.{split-block, split-offset, rejoin, in-need, in_block, in_image}
use Rattle.tfs_facts.specs.Mends.{with_map, view-like}
use Rattle.tfs_facts.specs.Views.{view-map, view-n, free-inode, has}
use Rattle.tfs_proofs.specs.Writes.{Put, Files, Laid, step, length-step, step_other}

abbrev pub files_of : ℕ → View → Files
files_of B v = record { size = λ s. size v s; place = λ s p. place B v s p }

-- two owners are one
pub owner-inode : (s t k : ℕ) → inode_of s ≡ content_of t k → ⊥
owner-inode s t k e = let z : ◌≡◌ {A = ℕ} 0 1 = cc in omega arith

pub owner-content : (s t j k : ℕ) → content_of s j ≡ content_of t k → (s ≡ t) × (j ≡ k)
owner-content s t j k e = (cc, cc)

pub blocks-eq : (B : ℕ) (a b : List ℕ) → length a ≡ length b → blocks B a ≡ blocks B b
unfolding blocks
blocks-eq B a b e = ap (λ (l : ℕ). min (8 * B) (l / B)) e

-- two images with the same blocks 0 to 2 and inodes have the same view
pub view-eq : (B : ℕ) (a b : List ℕ) → length a ≡ length b → ((i : ℕ) → i < 3 → block B a i ≡ block B b i) → ((s : ℕ) → s < slots B → Inside (view B b) (inode (view B b) s) → block B a (inode (view B b) s) ≡ block B b (inode (view B b) s)) → view B a ≡ view B b
view-eq B a b len low inodes =
    view-like B b a len (low 0 (omega arith)) (low 2 (omega arith)) inodes ∙ ap (with_map (view B b)) (low 1 (omega arith) ∙ sym (view-map B b))

-- a slot whose inode number is in range holds a file
pub file-at : (B : ℕ) (v : View) (s : ℕ) → s < slots B → Inside v (inode v s) → File B v s
file-at B v s h r =
    record { slot = h; taken = by-test (free v s) (λ t. absurd (let z : inode v s ≡ 0 = free-inode v s t in omega (arith, r.low))) (λ t. t) }

module _ (B : ℕ) (pos : 0 < B) (img : List ℕ) (ok : Sound B (view B img)) where
  abbrev v : View
  v = view B img

  -- the block of a position
  pub position : (s p : ℕ) → p < size v s → Inside v (number v s (p / B))
  position s p l = ok.inside s (p / B) (has B img s p l) (in-need B pos p (size v s) l)

  pub owns-position : (s p : ℕ) → p < size v s → Owns B v (content_of s (p / B)) (number v s (p / B))
  owns-position s p l = (has B img s p l, in-need B pos p (size v s) l, refl)

  apart : (s p t q : ℕ) → p < size v s → q < size v t → place B v s p ≡ place B v t q → (s ≡ t) × (p ≡ q)
  unfolding place
  apart s p t q lp lq e =
      let a : number v s (p / B) ≡ number v t (q / B) = split-block B pos (number v s (p / B)) (number v t (q / B)) (p % B) (q % B) (in_block B pos p) (in_block B pos q) e in
      let r : p % B ≡ q % B = split-offset B pos (number v s (p / B)) (number v t (q / B)) (p % B) (q % B) (in_block B pos p) (in_block B pos q) e in
      let o : content_of s (p / B) ≡ content_of t (q / B) =
      ok.once (number v s (p / B)) (content_of s (p / B)) (content_of t (q / B)) (owns-position s p lp) (has B img t q lq, in-need B pos q (size v t) lq, sym a)
      in
      let d : (s ≡ t) × (p / B ≡ q / B) = owner-content s t (p / B) (q / B) o in
      (d.0, rejoin B pos p q d.1 r)

  pub laid : Laid (files_of B v) (length img)
  unfolding place
  laid =
      record {
        inside = λ s p l.
            (let c : Inside v (number v s (p / B)) = position s p l in
            omega (arith, in_image B (number v s (p / B)) img (subst (λ (n : ℕ). number v s (p / B) < n) (view-n B img) c.high), in_block B pos p));
        apart = apart;
      }

  module _ (w : Put) where
    abbrev new : List ℕ
    new = step (files_of B v) img w

    -- a block that holds no content is as it was
    pub kept : (i : ℕ) → ((s k : ℕ) → File B v s → k < need B (size v s) → i ≢ number v s k) → block B new i ≡ block B img i
    unfolding block place
    kept i far =
        part_ext (i * B) B new img (length-step (files_of B v) img w)
        (λ r l. step_other (files_of B v) img w (i * B + r)
        (λ p h e.
        far w.slot (p / B) (has B img w.slot p h) (in-need B pos p (size v w.slot) h)
        (split-block B pos i (number v w.slot (p / B)) r (p % B) l (in_block B pos p) e)))

    low-kept : (i : ℕ) → i < 3 → block B new i ≡ block B img i
    low-kept i l = kept i (λ s k f h e. let c : Inside v (number v s k) = ok.inside s k f h in omega (arith, c.low))

    inode-kept : (s : ℕ) → s < slots B → Inside v (inode v s) → block B new (inode v s) ≡ block B img (inode v s)
    inode-kept s h r =
        kept (inode v s)
        (λ t k f l e. owner-inode s t k (ok.once (inode v s) (inode_of s) (content_of t k) (file-at B v s h r, refl) (f, l, sym e)))

    -- a write keeps everything but content
    pub view-kept : view B new ≡ view B img
    view-kept = view-eq B new img (length-step (files_of B v) img w) low-kept inode-kept
