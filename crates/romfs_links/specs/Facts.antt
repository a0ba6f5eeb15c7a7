-- What is known of a walked image gives these facts on numbers.
use Rattle.std.specs.Prelude.{ℕ, ◌+◌, ◌≤◌, ◌<◌, ◌≡◌, ◌≢◌, List, length}
use Rattle.std.proofs.Common.{◌∙◌, arith}
use Rattle.romfs_spec.specs.Layout.{full_size, next}
use Rattle.romfs_facts.specs.Tested.{IsReached, Sound}
use Rattle.romfs_facts.specs.Facts.{room, next-from, next-to}
use Rattle.romfs_facts.specs.Walked.{Volume, full_from, full-to, reached-room}
use Rattle.romfs_links.specs.Known.{Walked}

pub length-of : (s : List ℕ) → Volume s → 32 ≤ length s
length-of s v = omega (arith, full_from s v, full-to s v)

pub full_at_least : (s : List ℕ) (full : ℕ) → Volume s → full ≡ full_size s → 32 ≤ full
full_at_least s full v f = omega (arith, full_from s v)

-- a reached header's 16 bytes and 16 of its name lie within the full size
pub reach_room : (s : List ℕ) (full : ℕ) (w : Walked s full) (p : ℕ) → IsReached s p → p + 32 ≤ full
reach_room s full w p r = omega (arith, w.whole.is, reached-room s w.volume w.walked p r.bound r.depth r.reached)

-- the next of a sound header
pub sound-next : (s : List ℕ) (bound d p q : ℕ) → Sound s p bound d → q ≡ next s p → (q ≡ 0 → ⊥) → (p < q) × (q < bound)
sound-next s bound d p q h e z =
    let y : next s p ≢ 0 = λ w. z (e ∙ w) in
    omega (arith, room s p, next-from s p bound d h y, next-to s p bound d h y)
