-- Format leaves a consistent volume with no file in it, and changes nothing past block 2.
use Rattle.std.specs.Prelude.{◌≡◌, refl, ◌&&◌, ℕ, suc, ◌+◌, ◌-◌, ◌*◌, ◌≤◌, ◌<◌, length, get_or, ltb}
use Rattle.std.proofs.Common.{sym, ap, ◌∙◌, inl, ⊎_elim, take_all, get_or-append-add, ltb→lt, nltb→le, T_not}
use Rattle.std.proofs.Math.Path.{subst}
use Rattle.std.proofs.Math.Bool.{not}
use Rattle.std.proofs.Math.Option.{none}
use mathlib.Core.List.{List, [], ◌∷◌, ◌++◌}
use native.Mathlib.Omega.{arith}
use Rattle.std.proofs.lemmas.List.{length-replicate}
use Rattle.std.proofs.Math.Dec.{T}
use Rattle.list_laws.specs.Test.{zeros-byte, by-test, cond_yes, cond_no, and_l, no-and, yes-yes}
use Rattle.list_laws.specs.Least.{least-all}
use Rattle.lists.specs.Lists.{zeros, pad_to, part, word, bytes4, with_bit}
use Rattle.list_laws.specs.Part.{get_or-part}
use Rattle.list_laws.specs.Word.{word-bytes4}
use Rattle.tfs_spec.specs.Layout.{BlockSize, slots, block, magic, volume_name, map_bit, set_bits, slot, slot_free, label_allowed, same_name, set_bit, View, view, free, name, slot_of, contents}
use Rattle.tfs_spec.specs.Check.{too_short}
use Rattle.tfs_spec.specs.Consistent.{File, Sound, Consistent}
use Rattle.tfs_facts.specs.Claims.{slot_in, owns-file}
use Rattle.tfs_spec.specs.Requests.{done, granted, Outcome, store, store_all, refuse, format_stores, format}
use Rattle.tfs_facts.specs.Raw.{head-number, label-byte}
use Rattle.tfs_facts.specs.Views.{view-head, view-map, view-dir}
use Rattle.tfs_facts.specs.Slots.{zero-free}
use Rattle.tfs_facts.specs.Stores.{Fits, length-store_all, stored-first, fits-up, stored_past, stored_at}
use Rattle.tfs_facts.specs.Entries.{length-pad}
use Rattle.tfs_proofs.specs.Others.{stands-not}
use Rattle.tfs_facts.specs.MapBits.{length-set_bits}
use Rattle.tfs_facts.specs.FreshMap.{format_map, marked-low, low-marked}

-- ---- zeros
-- each slot of a directory of zeros is free
directory-free : (n s : ℕ) → T (slot_free (slot (zeros n) s))
unfolding slot
directory-free n s = zero-free (part (s * 20) 20 (zeros n)) (λ i l. get_or-part (s * 20) 20 (zeros n) i (omega arith) ∙ zeros-byte n (s * 20 + i))

-- ---- what format stores
abbrev format_head : ℕ → List ℕ → List ℕ
format_head B label = bytes4 magic ++ pad_to (B - 4) label

-- the zero that ends the label
head-end : (B : ℕ) (label : List ℕ) → 512 ≤ B → length label < 16 → get_or (volume_name (format_head B label)) (length label) 0 ≡ 0
head-end B label h l =
    get_or-part 4 16 (format_head B label) (length label) l
    ∙ ap (λ (i : ℕ). get_or (format_head B label) i 0) at
    ∙ ap (λ (x : List ℕ). get_or (x ++ zeros (B - 4 - length label)) (length label) 0) (take_all (B - 4) label (omega arith))
    ∙ ap (λ (i : ℕ). get_or (label ++ zeros (B - 4 - length label)) i 0) last
    ∙ get_or-append-add label (zeros (B - 4 - length label)) 0 0
    ∙ zeros-byte (B - 4 - length label) 0
  where
    at : 4 + length label ≡ suc (suc (suc (suc (length label))))
    at = omega arith

    last : length label ≡ length label + 0
    last = omega arith

-- a label that is allowed leaves room for its zero
label-short : (label : List ℕ) → T (label_allowed label) → length label < 16
unfolding label_allowed
label-short label t = ltb→lt (length label) 16 (and_l (ltb (length label) 16) _ t)

-- ---- a volume with no file
module _ (B : ℕ) (v : View) (clear : (s : ℕ) → T (free v s)) where
  no-owner : (s : ℕ) → File B v s → ⊥
  no-owner s f = T_not (free v s) f.taken (clear s)

  -- is sound where the map marks blocks 0 to 2 alone
  pub sound_empty : ((b : ℕ) → T (map_bit v.map b) → b < 3) → ((b : ℕ) → b < 3 → T (map_bit v.map b)) → Sound B v
  sound_empty low high =
      record {
        formed = λ s l. inl (clear s);
        apart = λ s t f g e. absurd (no-owner s f);
        small = λ s f. absurd (no-owner s f);
        inside = λ s k f l. absurd (no-owner s f);
        rest = λ s k f l h. absurd (no-owner s f);
        once = λ b o p h g. absurd (no-owner (slot_in o) (owns-file B v b o h));
        mapped = λ b l. (λ t. inl (low b t), ⊎_elim (high b) (λ w. absurd (no-owner (slot_in w.0) (owns-file B v b w.0 w.1))));
      }

  pub slot_of-empty : (nm : List ℕ) → slot_of B v nm ≡ slots B
  unfolding slot_of
  slot_of-empty nm = least-all (λ s. not (free v s) && same_name (name v s) nm) (slots B) (λ s l. no-and (not (free v s)) _ (yes-yes (free v s) (clear s)))

-- format stores to blocks 0 to 2
pub format-fits : (B : ℕ) → BlockSize B → (label : List ℕ) → Fits B (3 * B) (format_stores B label)
unfolding format_stores
format-fits B size label = (
  omega (arith, size.large, length-pad (B - 4) label),
  (
    omega arith,
    (length-set_bits (0 ∷ 1 ∷ 2 ∷ []) (zeros B) 1 ∙ length-replicate B 0, (omega arith, (length-replicate B 0, (omega arith, tt)))),
  ),
)

module _ (B : ℕ) (size : BlockSize B) (img label : List ℕ) (long : 3 * B ≤ length img) where
  abbrev pub formatted : List ℕ
  formatted = store_all B img (format_stores B label)

  fits : Fits B (length img) (format_stores B label)
  fits = fits-up B (3 * B) (length img) long (format_stores B label) (format-fits B size label)

  pub formatted-length : length formatted ≡ length img
  formatted-length = length-store_all B (format_stores B label) img fits

  pub formatted-past : (q : ℕ) → 3 * B ≤ q → get_or formatted q 0 ≡ get_or img q 0
  formatted-past q h = stored_past B (3 * B) (format_stores B label) img q (format-fits B size label) long h

  formatted-head : (view B formatted).head ≡ format_head B label
  unfolding format_stores
  formatted-head =
      view-head B formatted ∙ stored-first B (store 0 (format_head B label)) (store 1 (format_map B) ∷ store 2 (zeros B) ∷ []) img fits (omega arith, (omega arith, tt))

  formatted-map : (view B formatted).map ≡ format_map B
  unfolding format_stores
  formatted-map =
      view-map B formatted
      ∙ stored_at B (store 0 (format_head B label) ∷ []) (store 1 (format_map B)) (store 2 (zeros B) ∷ []) img fits (omega arith, tt)

  formatted-dir : (view B formatted).dir ≡ zeros B
  unfolding format_stores
  formatted-dir =
      view-dir B formatted
      ∙ stored_at B (store 0 (format_head B label) ∷ store 1 (format_map B) ∷ []) (store 2 (zeros B)) [] img fits tt

  formatted-free : (s : ℕ) → T (free (view B formatted) s)
  unfolding free
  formatted-free s = subst (λ (d : List ℕ). T (slot_free (slot d s))) (sym formatted-dir) (directory-free B s)

  formatted-consistent : length label < 16 → Consistent B formatted
  formatted-consistent l =
      record {
        long = rw formatted-length long;
        magical = sym (head-number B formatted (omega (arith, size.large))) ∙ ap (λ (h : List ℕ). word h 0) formatted-head ∙ word-bytes4 magic (pad_to (B - 4) label);
        labelled = (length label, l, sym (label-byte B formatted (omega (arith, size.large)) (length label) l) ∙ ap (λ (h : List ℕ). get_or (volume_name h) (length label) 0) formatted-head ∙ head-end B label size.large l);
        sound = sound_empty B (view B formatted) formatted-free
            (λ b t. low-marked B b size.large (subst (λ (m : List ℕ). T (map_bit m b)) formatted-map t))
            (λ b h. subst (λ (m : List ℕ). T (map_bit m b)) (sym formatted-map) (marked-low B b size.large h));
      }

  formatted-empty : (nm : List ℕ) → contents B formatted nm ≡ none
  formatted-empty nm = stands-not B formatted nm (omega (arith, slot_of-empty B (view B formatted) formatted-free nm))

-- bits 0, 1, 2 of the first word
three-marked : (n : ℕ) → set_bits (zeros (suc (suc (suc (suc n))))) 1 (0 ∷ 1 ∷ 2 ∷ []) ≡ 0 ∷ 0 ∷ 0 ∷ 7 ∷ zeros n
unfolding set_bit with_bit
three-marked n = refl

fits-four : (B : ℕ) → 4 ≤ B → B ≡ suc (suc (suc (suc (B - 4))))
fits-four B h = omega arith

-- ---- format, granted or refused
-- what holds of each outcome that format can have
pub by-format : (B : ℕ) (img label : List ℕ) (P : Outcome → Type 0) → (length img < 3 * B → P (refuse img [] 1 0)) → (T (not (label_allowed label)) → P (refuse img [] 8 0)) → (3 * B ≤ length img → T (label_allowed label) → P (record { answer = done; image = store_all B img (format_stores B label); buffer = [] })) → P (format B img label)
unfolding format too_short
by-format B img label P short bad full =
    by-test (ltb (length img) (3 * B))
    (λ t. subst P (sym (cond_yes (ltb (length img) (3 * B)) _ _ t)) (short (ltb→lt (length img) (3 * B) t)))
    (λ t.
    subst P (sym (cond_no (ltb (length img) (3 * B)) _ _ t))
    (by-test (label_allowed label)
    (λ u. subst P (sym (cond_no (not (label_allowed label)) _ _ (yes-yes (label_allowed label) u))) (full (nltb→le (length img) (3 * B) t) u))
    (λ u. subst P (sym (cond_yes (not (label_allowed label)) _ _ u)) (bad u))))

-- "A refusal leaves the image .. unchanged"
pub format-refused : (B : ℕ) (img label : List ℕ) → T (not (granted (format B img label).answer)) → (format B img label).image ≡ img
format-refused B img label =
    by-format B img label (λ o. T (not (granted o.answer)) → o.image ≡ img) (λ _ _. refl) (λ _ _. refl) (λ _ _ g. absurd g)

module _ {B : ℕ} (size : BlockSize B) (img label : List ℕ) where
  -- format grants every image of 3 blocks or more and every allowed label
  pub format-grants : 3 * B ≤ length img → T (label_allowed label) → (format B img label).answer ≡ done
  format-grants h t =
      by-format B img label (λ o. o.answer ≡ done) (λ l. absurd (omega arith)) (λ u. absurd (T_not (label_allowed label) u t)) (λ _ _. refl)

  -- granted, it leaves a consistent volume
  pub format-consistent : T (granted (format B img label).answer) → Consistent B (format B img label).image
  format-consistent =
      by-format B img label (λ o. T (granted o.answer) → Consistent B o.image) (λ _ g. absurd g) (λ _ g. absurd g)
      (λ h t _. formatted-consistent B size img label h (label-short label t))

  -- with no file in it
  pub format-empty : T (granted (format B img label).answer) → (nm : List ℕ) → contents B (format B img label).image nm ≡ none
  format-empty =
      by-format B img label (λ o. T (granted o.answer) → (nm : List ℕ) → contents B o.image nm ≡ none) (λ _ g. absurd g) (λ _ g. absurd g)
      (λ h t _. formatted-empty B size img label h)

  pub format-free : T (granted (format B img label).answer) → (s : ℕ) → T (free (view B (format B img label).image) s)
  format-free =
      by-format B img label (λ o. T (granted o.answer) → (s : ℕ) → T (free (view B o.image) s)) (λ _ g. absurd g) (λ _ g. absurd g) (λ h t _ s. formatted-free B size img label h s)

  -- "Later blocks are untouched", and so are the bytes past the last block
  pub format-past : (q : ℕ) → 3 * B ≤ q → get_or (format B img label).image q 0 ≡ get_or img q 0
  format-past q l =
      by-format B img label (λ o. get_or o.image q 0 ≡ get_or img q 0) (λ _. refl) (λ _. refl) (λ h t. formatted-past B size img label h q l)

  pub format-length : length (format B img label).image ≡ length img
  format-length =
      by-format B img label (λ o. length o.image ≡ length img) (λ _. refl) (λ _. refl) (λ h t. formatted-length B size img label h)

  -- block 0: magic and name, "then zeros"
  pub format-head : T (granted (format B img label).answer) → block B (format B img label).image 0 ≡ bytes4 magic ++ (label ++ zeros (B - 4 - length label))
  format-head =
      by-format B img label (λ o. T (granted o.answer) → block B o.image 0 ≡ bytes4 magic ++ (label ++ zeros (B - 4 - length label))) (λ _ g. absurd g) (λ _ g. absurd g)
      (λ h t _.
      sym (view-head B (formatted B size img label h))
      ∙ formatted-head B size img label h
      ∙ ap (λ (x : List ℕ). bytes4 magic ++ (x ++ zeros (B - 4 - length label))) (take_all (B - 4) label (omega (arith, size.large, label-short label t))))

  -- block 1: "map bits 0, 1, 2"
  pub format-map : T (granted (format B img label).answer) → block B (format B img label).image 1 ≡ 0 ∷ 0 ∷ 0 ∷ 7 ∷ zeros (B - 4)
  format-map =
      by-format B img label (λ o. T (granted o.answer) → block B o.image 1 ≡ 0 ∷ 0 ∷ 0 ∷ 7 ∷ zeros (B - 4)) (λ _ g. absurd g) (λ _ g. absurd g)
      (λ h t _. sym (view-map B (formatted B size img label h)) ∙ formatted-map B size img label h ∙ ap (λ (n : ℕ). set_bits (zeros n) 1 (0 ∷ 1 ∷ 2 ∷ [])) (fits-four B (omega (arith, size.large))) ∙ three-marked (B - 4))

  -- block 2: zeros
  pub format-directory : T (granted (format B img label).answer) → block B (format B img label).image 2 ≡ zeros B
  format-directory =
      by-format B img label (λ o. T (granted o.answer) → block B o.image 2 ≡ zeros B) (λ _ g. absurd g) (λ _ g. absurd g)
      (λ h t _. sym (view-dir B (formatted B size img label h)) ∙ formatted-dir B size img label h)
