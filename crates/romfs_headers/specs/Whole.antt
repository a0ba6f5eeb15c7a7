-- What is known of an image at a place of the code.
use Rattle.std.specs.Prelude.{◌≡◌, ℕ, ◌<◌, ◌≤◌, List, length}
use Rattle.romfs_spec.specs.Layout.{full_size}

-- full is the image's full size, and the image has so many bytes
pub record Whole (s : List ℕ) (full : ℕ) : Type 0 where
  pub is : full ≡ full_size s
  pub inside : full ≤ length s
  pub small : full < 4294967296
