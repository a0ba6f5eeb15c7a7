-- Words and blocks in the raw bytes of the image.
use Rattle.std.specs.Prelude.{◌≡◌, ℕ, ◌+◌, ◌*◌, ◌≤◌, ◌<◌, List}
use Rattle.std.proofs.Math.Path.{ap}
use Rattle.std.proofs.Common.{◌∙◌, arith}
use Rattle.std.proofs.Math.ListN.{get_or}
use Rattle.lists.specs.Lists.{word, part}
use Rattle.list_laws.specs.Word.{word-cong}
use Rattle.list_laws.specs.Part.{get_or-part}
use Rattle.tfs_spec.specs.Layout.{block, volume_name, view, view_n}
use Rattle.tfs_spec.specs.Consistent.{number_at}

pub word_number : (l : List ℕ) (p : ℕ) → word l p ≡ number_at l p
unfolding word
word_number l p = omega arith

-- a word inside a part
pub part-number : (s n : ℕ) (l : List ℕ) (p : ℕ) → p + 4 ≤ n → word (part s n l) p ≡ number_at l (s + p)
part-number s n l p h =
    word-cong (part s n l) l p (s + p) (λ j k. (get_or-part s n l (p + j) (omega arith) ∙ ap (λ (i : ℕ). get_or l i 0) (omega arith))) ∙ word_number l (s + p)

module _ (B : ℕ) (img : List ℕ) where
  head_byte : (r : ℕ) → r < B → get_or (view B img).head r 0 ≡ get_or img r 0
  unfolding view view_n block
  head_byte r h = get_or-part (0 * B) B img r h ∙ ap (λ (i : ℕ). get_or img i 0) (omega arith)

  -- "magic in bytes 0..3"
  pub head-number : 4 ≤ B → word (view B img).head 0 ≡ number_at img 0
  head-number h = word-cong (view B img).head img 0 0 (λ j k. head_byte (0 + j) (omega arith)) ∙ word_number img 0

  -- "volume name in bytes 4..19"
  pub label-byte : 20 ≤ B → (i : ℕ) → i < 16 → get_or (volume_name (view B img).head) i 0 ≡ get_or img (4 + i) 0
  label-byte h i l = get_or-part 4 16 (view B img).head i l ∙ head_byte (4 + i) (omega arith)
