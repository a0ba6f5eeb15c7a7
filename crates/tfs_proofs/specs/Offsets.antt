-- The layout in raw offsets.
use Rattle.std.specs.Prelude.{◌≡◌, ◌≢◌, ◌↔◌, take, T}
use Rattle.std.proofs.Math.Path.{sym, ap}
use Rattle.std.proofs.Common.{◌∙◌, arith, get_or-take, eqb→eq}
use Prim.Native.Nat.{ℕ, ◌+◌, ◌*◌, ◌/◌, ◌%◌, ◌^◌, ◌≤◌, ◌<◌}
use mathlib.Core.List.{List, []}
use Rattle.std.proofs.Math.Decide.{dec_lt}
use Rattle.std.proofs.Math.ListN.{length, get_or, get_or-eq_default}
use Rattle.std.proofs.Math.Seq.{ext_get_or, length-take-le}
use Rattle.lists.specs.Lists.{word, part, bit_of}
use Rattle.list_laws.specs.Test.{eqb_of}
use Rattle.list_laws.specs.Bits.{bit-shift}
use Rattle.list_laws.specs.Word.{word-cong}
use Rattle.list_laws.specs.Part.{length_part, get_or-part}
use Rattle.tfs_spec.specs.Layout.{BlockSize, max_blocks, slots, numbers, blocks, block, slot, slot_inode, slot_name, name_field, volume_name, map_bit, inode_size, inode_number, view, view_n, free, used, inode, name, size, number, place}
use Rattle.tfs_spec.specs.Consistent.{number_at, Bytes, slot_at, InVolume, EndsAt, LayoutLaws}
use Rattle.tfs_facts.specs.Raw.{word_number, part-number, head-number, label-byte}
use Rattle.tfs_facts.specs.CheckMeans.{free-means, used-means, length-field}
use Rattle.tfs_facts.specs.Slots.{name-is}
use Rattle.tfs_facts.specs.MapWords.{map-bit-word}
use Rattle.tfs_facts.specs.Views.{view-n, view-head, view-map, view-dir, length-map, length-dir, inode-block}
use Rattle.tfs_facts.specs.Sizes.{in_image}
use Rattle.tfs_facts.specs.Stores.{length-block, byte_at}
use Rattle.tfs_proofs.specs.SlotBytes.{slot-byte, field-byte}

module _ (B : ℕ) (sz : BlockSize B) (img : List ℕ) (long : 3 * B ≤ length img) where
  label-length : length (volume_name (view B img).head) ≡ 16
  label-length =
      length_part 4 16 (view B img).head (omega (arith, sz.large, ap length (view-head B img) ∙ length-block B img 0 (omega arith)))

  -- ---- the map
  map-byte : (i : ℕ) → i < B → get_or (view B img).map i 0 ≡ get_or img (B + i) 0
  map-byte i h =
      ap (λ (l : List ℕ). get_or l i 0) (view-map B img) ∙ sym (byte_at B img 1 i h) ∙ ap (λ (q : ℕ). get_or img q 0) (omega arith)

  map-small : Bytes img → (i : ℕ) → get_or (view B img).map i 0 < 256
  map-small small i =
      elim (dec_lt i B) [
        | yes h ↦ omega (arith, map-byte i h, small (B + i))
        | no h ↦ omega (arith, get_or-eq_default (view B img).map 0 {n = i} (omega (arith, length-map B img long)))
      ]

  map-word : (b : ℕ) → b < max_blocks B → word (view B img).map (4 * (b / 32)) ≡ number_at img (B + 4 * (b / 32))
  map-word b h =
      let inside : 4 * (b / 32) + 4 ≤ B = omega (arith, sz.whole) in
      word-cong (view B img).map img (4 * (b / 32)) (B + 4 * (b / 32)) (λ j k. (map-byte (4 * (b / 32) + j) (omega arith) ∙ ap (λ (q : ℕ). get_or img q 0) (omega arith)))
      ∙ word_number img (B + 4 * (b / 32))

  map-bit : Bytes img → (b : ℕ) → b < max_blocks B → T (map_bit (view B img).map b) ↔ (number_at img (B + 4 * (b / 32)) / 2 ^ (b % 32) % 2 ≡ 1)
  map-bit small b h =
      let e : bit_of (word (view B img).map (4 * (b / 32))) (b % 32) ≡ number_at img (B + 4 * (b / 32)) / 2 ^ (b % 32) % 2 =
      sym (bit-shift (word (view B img).map (4 * (b / 32))) (b % 32)) ∙ ap (λ (n : ℕ). n / 2 ^ (b % 32) % 2) (map-word b h)
      in
      let m = map-bit-word (view B img).map b (map-small small) in (
        (λ t. sym e ∙ eqb→eq _ 1 (rw m at t)),
        λ k. rw m (eqb_of (e ∙ k)),
      )

  -- ---- a slot
  module _ (s : ℕ) (low : s < slots B) where
    slot-inode : inode (view B img) s ≡ number_at img (slot_at B s)
    unfolding inode slot_inode view view_n
    slot-inode =
        word-cong (slot (block B img 2) s) img 0 (slot_at B s) (λ j k. (slot-byte B img s (0 + j) low (omega arith) ∙ ap (λ (q : ℕ). get_or img q 0) (omega arith))) ∙ word_number img (slot_at B s)

    field_at : (i : ℕ) → i < 16 → get_or (name_field (slot (view B img).dir s)) i 0 ≡ get_or img (slot_at B s + 4 + i) 0
    field_at i h = ap (λ (d : List ℕ). get_or (name_field (slot d s)) i 0) (view-dir B img) ∙ field-byte B img s i low h

    first_byte : get_or (name_field (slot (view B img).dir s)) 0 0 ≡ get_or img (slot_at B s + 4) 0
    first_byte = field_at 0 (omega arith) ∙ ap (λ (q : ℕ). get_or img q 0) (omega arith)

    slot-free : T (free (view B img) s) ↔ ((number_at img (slot_at B s) ≡ 0) × (get_or img (slot_at B s + 4) 0 ≡ 0))
    slot-free =
        let m = free-means B (view B img) s (length-dir B img long) low in
        ((λ t. (sym slot-inode ∙ (m.0 t).0, sym first_byte ∙ (m.0 t).1)), λ h. m.1 (slot-inode ∙ h.0, first_byte ∙ h.1))

    slot-used : T (used (view B img) s) ↔ (InVolume B img (number_at img (slot_at B s)) × ((i : ℕ) × (i < 16) × (get_or img (slot_at B s + 4 + i) 0 ≡ 0)) × (get_or img (slot_at B s + 4) 0 ≢ 0))
    slot-used =
        let m = used-means B (view B img) s (length-dir B img long) low in (
          (λ t.
              let u = m.0 t in (
                (omega (arith, slot-inode, u.0.low), omega (arith, slot-inode, u.0.high, view-n B img)),
                (u.1.0, u.1.1, sym (field_at u.1.0 u.1.1) ∙ u.1.2),
                λ e. u.2 (first_byte ∙ e),
              )),
          λ h.
              m.1 (
                record { low = omega (arith, slot-inode, h.0.0); high = omega (arith, slot-inode, h.0.1, view-n B img) },
                (h.1.0, h.1.1, field_at h.1.0 h.1.1 ∙ h.1.2),
                λ e. h.2 (sym first_byte ∙ e),
              ),
        )

    slot-name : (k : ℕ) → EndsAt img (slot_at B s + 4) k → name (view B img) s ≡ part (slot_at B s + 4) k img
    unfolding name slot_name
    slot-name k n =
        let field : List ℕ = name_field (slot (view B img).dir s) in
        let long-field : length field ≡ 16 = length-field B (view B img) s (length-dir B img long) low in
        let l : length (take k field) ≡ k = length-take-le k field (omega (arith, n.short)) in
        let r : length (part (slot_at B s + 4) k img) ≡ k = length_part (slot_at B s + 4) k img (omega (arith, n.short)) in
        name-is field k (record {
          short = omega (arith, n.short);
          bytes = λ i h z. n.bytes i h (sym (field_at i (omega (arith, n.short))) ∙ z);
          end = field_at k (omega (arith, n.short)) ∙ n.end;
        })
        ∙ ext_get_or 0 (take k field) (part (slot_at B s + 4) k img) (l ∙ sym r)
        (λ i h.
        (get_or-take k field i 0 (omega arith) ∙ field_at i (omega (arith, n.short)) ∙ sym (get_or-part (slot_at B s + 4) k img i (omega arith))))

    -- ---- its inode
    module _ (there : InVolume B img (inode (view B img) s)) where
      ino-is : get_or (view B img).inodes s [] ≡ block B img (inode (view B img) s)
      ino-is = inode-block B img s low (record { low = there.0; high = omega (arith, there.1, view-n B img) })

      inode-size : size (view B img) s ≡ number_at img (inode (view B img) s * B)
      unfolding size inode_size block
      inode-size =
          ap (λ (l : List ℕ). word l 0) ino-is
          ∙ part-number (inode (view B img) s * B) B img 0 (omega (arith, sz.large))
          ∙ ap (number_at img) (omega arith)

      inode-number : (k : ℕ) → k < numbers B → number (view B img) s k ≡ number_at img (inode (view B img) s * B + 4 + 4 * k)
      unfolding number inode_number block
      inode-number k h =
          ap (λ (l : List ℕ). word l (4 + 4 * k)) ino-is
          ∙ part-number (inode (view B img) s * B) B img (4 + 4 * k) (omega arith)
          ∙ ap (number_at img) (omega arith)

  content-place : (s p : ℕ) (low : s < slots B) → InVolume B img (inode (view B img) s) → p / B < numbers B → place B (view B img) s p ≡ number_at img (inode (view B img) s * B + 4 + 4 * (p / B)) * B + p % B
  unfolding place
  content-place s p low there h = ap (λ (n : ℕ). n * B + p % B) (inode-number s low there (p / B) h)

  inside-image : (b : ℕ) → b < blocks B img → b * B + B ≤ length img
  inside-image b h = in_image B b img h

  pub layout-laws : LayoutLaws B img
  layout-laws =
      record {
        volume = view-n B img;
        block-long = λ b h. length-block B img b (inside-image b h);
        block-byte = λ b i h. sym (byte_at B img b i h);
        head-block = view-head B img;
        map-block = view-map B img;
        directory-block = view-dir B img;
        magic-number = head-number B img (omega (arith, sz.large));
        label-length = label-length;
        label-byte = label-byte B img (omega (arith, sz.large));
        map-bit = map-bit;
        slot-inode = slot-inode;
        slot-free = slot-free;
        slot-used = slot-used;
        slot-name = λ s k low n. slot-name s low k n;
        inode-size = inode-size;
        inode-number = λ s k low there h. inode-number s low there k h;
        content-place = content-place;
      }
