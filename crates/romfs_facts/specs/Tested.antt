-- Reached headers and accepted images by the check's own tests, for the proofs; romfs_spec has them in plain facts.
use Rattle.std.specs.Prelude.{ℕ, suc, ◌≡◌, ◌≢◌, true, false, List}
use Rattle.romfs_spec.specs.Layout.{full_size, first_root, type_of_file, next, info, own, is_dots, descends}
use Rattle.romfs_spec.specs.Check.{too_short, bad_magic, bad_full_size, bad_volume_sum, bad_volume_name, bad_header, bad_nesting, too_deep}

-- a header at p is reached, in a list with its bound and its depth
pub data Reached (s : List ℕ) : ℕ → ℕ → ℕ → Type 0 where
  -- The root's first header (none if that is F); its list has the bound F and depth 1.
  root : first_root s ≢ full_size s → Reached s (first_root s) (full_size s) 1
  -- the next header of the list
  along : {p bound depth : ℕ} → Reached s p bound depth → next s p ≢ 0 → Reached s (next s p) bound depth
  -- A directory entry visits its own list: its first header; the entry's own bound is also the bound of its list.
  inside : {p bound depth : ℕ} → Reached s p bound depth → descends s p ≡ true → info s p ≢ 0 → Reached s (info s p) (own s bound p) (suc depth)

-- some list has a header at p
pub record IsReached (s : List ℕ) (p : ℕ) : Type 0 where
  pub bound : ℕ
  pub depth : ℕ
  pub reached : Reached s p bound depth

-- 26 to 28 do not hold of a header
pub record Sound (s : List ℕ) (p bound depth : ℕ) : Type 0 where
  pub head : bad_header s bound p ≡ false
  pub nested : bad_nesting s bound p ≡ false
  pub shallow : too_deep s depth p ≡ false

-- 29 does not hold of a header: a hard link's spec.info is a reached header of another type than 0, that of a directory named "." or ".." is a reached header
pub record Linked (s : List ℕ) (p : ℕ) : Type 0 where
  pub hard : type_of_file s p ≡ 0 → IsReached s (info s p) × (type_of_file s (info s p) ≢ 0)
  pub dots : type_of_file s p ≡ 1 → is_dots s p ≡ true → IsReached s (info s p)

pub record Accepted (s : List ℕ) : Type 0 where
  pub not21 : too_short s ≡ false
  pub not22 : bad_magic s ≡ false
  pub not23 : bad_full_size s ≡ false
  pub not24 : bad_volume_sum s ≡ false
  pub not25 : bad_volume_name s ≡ false
  pub sound : {p bound depth : ℕ} → Reached s p bound depth → Sound s p bound depth
  pub linked : {p bound depth : ℕ} → Reached s p bound depth → Linked s p
