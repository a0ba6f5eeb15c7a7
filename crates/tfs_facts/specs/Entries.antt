-- What create writes is read back: a directory entry, and an inode.
use Rattle.std.specs.Prelude.{◌≡◌, refl, ◌≢◌, not, ℕ, suc, ◌+◌, ◌-◌, ◌*◌, ◌≤◌, ◌<◌, get_or, take, T, leb, ltb}
use Rattle.std.proofs.Common.{sym, ◌∙◌, subst, arith, length-take, take_at, get_or-append-add, leb→le, ltb→lt, eqb→eq, T_not}
use Rattle.std.proofs.Math.Path.{ap, ap₂}
use mathlib.Core.List.{List, ◌∷◌, ◌++◌}
use Rattle.std.proofs.Math.ListN.{length, length-append, get_or-append}
use Rattle.std.proofs.lemmas.List.{length-replicate}
use Rattle.std.proofs.Math.Seq.{take_all}
use Rattle.lists.specs.Lists.{zeros, zero_at, first_zero, up_to_zero, pad_to, word, bytes4, words, part}
use Rattle.list_laws.specs.Test.{zeros-byte, and_l, and_r, eqb_of}
use Rattle.list_laws.specs.Least.{least-below}
use Rattle.list_laws.specs.Word.{length-words, words-at, word-bytes4, word-skip, zero_word}
use Rattle.tfs_spec.specs.Layout.{slot_inode, name_field, slot_name, slot_free, slot_used, in_range, entry, inode_size, inode_number, inode_block, label_allowed, name_allowed}
use Rattle.tfs_facts.specs.Slots.{Ends, name-is, named-taken, used-of}

pub length-pad : (n : ℕ) (l : List ℕ) → length (pad_to n l) ≡ n
length-pad n l = simp (length-append, length-take, length-replicate) (omega arith)

-- ---- a name that requests allow
pub record Allowed (nm : List ℕ) : Type 0 where
  pub some : 1 ≤ length nm
  pub short : length nm < 16
  pub whole : (i : ℕ) → i < length nm → get_or nm i 0 ≢ 0

pub allowed : (nm : List ℕ) → T (name_allowed nm) → Allowed nm
unfolding name_allowed label_allowed first_zero zero_at
allowed nm t =
    let a : T (label_allowed nm) = and_r (leb 1 (length nm)) _ t in
    let z : first_zero nm ≡ length nm = eqb→eq (first_zero nm) (length nm) (and_r (ltb (length nm) 16) _ a) in
    record {
      some = leb→le 1 (length nm) (and_l (leb 1 (length nm)) _ t);
      short = ltb→lt (length nm) 16 (and_l (ltb (length nm) 16) _ a);
      whole = λ i h e. T_not (zero_at nm i) (least-below (zero_at nm) (length nm) i (omega arith)) (eqb_of e);
    }

module _ (nm : List ℕ) (ok : Allowed nm) where
  abbrev field : List ℕ
  field = pad_to 16 nm

  pad-is : pad_to 16 nm ≡ nm ++ zeros (16 - length nm)
  pad-is = ap (λ (x : List ℕ). x ++ zeros (16 - length nm)) (take_all 16 nm (omega (arith, ok.short)))

  field-byte : (i : ℕ) → i < length nm → get_or (pad_to 16 nm) i 0 ≡ get_or nm i 0
  field-byte i h = ap (λ (x : List ℕ). get_or x i 0) pad-is ∙ get_or-append nm (zeros (16 - length nm)) 0 i h

  field-rest : (i : ℕ) → length nm ≤ i → get_or (pad_to 16 nm) i 0 ≡ 0
  field-rest i h =
      ap (λ (x : List ℕ). get_or x i 0) pad-is
      ∙ ap (λ (j : ℕ). get_or (nm ++ zeros (16 - length nm)) j 0) (omega arith)
      ∙ get_or-append-add nm (zeros (16 - length nm)) (i - length nm) 0
      ∙ zeros-byte (16 - length nm) (i - length nm)

  -- the padded field holds the name
  field-ends : Ends (pad_to 16 nm) (length nm)
  field-ends =
      record {
        short = omega (arith, length-pad 16 nm, ok.short);
        bytes = λ i l e. ok.whole i l (sym (field-byte i l) ∙ e);
        end = field-rest (length nm) (omega arith);
      }

  pub field-name : up_to_zero (pad_to 16 nm) ≡ nm
  field-name =
      name-is (pad_to 16 nm) (length nm) field-ends ∙ ap (take (length nm)) pad-is ∙ take_at nm (zeros (16 - length nm)) (length nm) refl

  -- ---- the entry of inode i
  module _ (i : ℕ) where
    pub length-entry : length (entry i nm) ≡ 20
    unfolding entry
    length-entry = length-append (bytes4 i) (pad_to 16 nm) ∙ omega (arith, length-pad 16 nm)

    pub entry-inode : slot_inode (entry i nm) ≡ i
    unfolding slot_inode entry
    entry-inode = word-bytes4 i (pad_to 16 nm)

    pub entry-field : name_field (entry i nm) ≡ pad_to 16 nm
    unfolding entry part
    entry-field = take_all 16 (pad_to 16 nm) (omega (arith, length-pad 16 nm))

    pub entry-name : slot_name (entry i nm) ≡ nm
    unfolding slot_name
    entry-name = ap up_to_zero entry-field ∙ field-name

    pub entry-taken : T (not (slot_free (entry i nm)))
    entry-taken = named-taken (entry i nm) (λ e. omega (arith, ok.some, ap length (sym entry-name ∙ e)))

    pub entry-used : (n : ℕ) → T (in_range n i) → T (slot_used n (entry i nm))
    entry-used n r =
        used-of (entry i nm) n (subst (λ (x : ℕ). T (in_range n x)) (sym entry-inode) r)
        (omega (arith, ok.some, ap length entry-name)) (omega (arith, ok.short, ap length entry-name))

-- ---- the inode of a file
module _ (B sz : ℕ) (bs : List ℕ) (few : 4 * (1 + length bs) ≤ B) where
  abbrev rest : List ℕ
  rest = zeros (B - length (words (sz ∷ bs)))

  block-is : inode_block B sz bs ≡ words (sz ∷ bs) ++ rest
  unfolding inode_block
  block-is = ap (λ (x : List ℕ). x ++ rest) (take_all B (words (sz ∷ bs)) (omega (arith, length-words (sz ∷ bs))))

  pub length-inode : length (inode_block B sz bs) ≡ B
  unfolding inode_block
  length-inode = length-pad B (words (sz ∷ bs))

  pub inode-size : inode_size (inode_block B sz bs) ≡ sz
  unfolding inode_size
  inode-size = ap (λ (x : List ℕ). word x 0) block-is ∙ words-at (sz ∷ bs) rest 0 (omega arith)

  pub inode-number : (k : ℕ) → k < length bs → inode_number (inode_block B sz bs) k ≡ get_or bs k 0
  unfolding inode_number
  inode-number k h =
      ap₂ word block-is (omega arith) ∙ words-at (sz ∷ bs) rest (suc k) (omega arith)

  pub inode-rest : (k : ℕ) → length bs ≤ k → inode_number (inode_block B sz bs) k ≡ 0
  unfolding inode_number
  inode-rest k h =
      let e : 4 + 4 * k ≡ length (words (sz ∷ bs)) + 4 * (k - length bs) = omega (arith, length-words (sz ∷ bs)) in
      ap₂ word block-is e ∙ word-skip (words (sz ∷ bs)) rest (4 * (k - length bs)) ∙ zero_word (B - length (words (sz ∷ bs))) (4 * (k - length bs))
