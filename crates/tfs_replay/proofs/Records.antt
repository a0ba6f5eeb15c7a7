-- The records of a trace one after another, by the position of the next.
use Rattle.std.specs.Prelude.{◌≡◌, Bool, true, false, ℕ, ◌+◌, ◌-◌, ◌≤◌, ◌<◌, List, length}
use Rattle.std.proofs.Math.Path.{sym}
use Rattle.std.proofs.Common.{ap, ◌∙◌, add-one}
use Rattle.std.proofs.Math.Nat.{sub-zero}
use Rattle.tfs_spec.specs.Traces.{parsed, malformed, Record, read_record, read_from, read_trace}
use Rattle.tfs_spec.specs.Replays.{run, agrees, Replayed, replayed, malformed_at, differs_at, Replay, replay_of, replay_on}
use Rattle.tfs_facts.specs.Forward.{from_end, from_step}

-- k records are replayed, and the next is to be read at a position
abbrev pub replay_from : List ℕ → List ℕ → ℕ → ℕ → Replay
replay_from t img k at = replay_on 512 img k (read_from (length t - at) t at)

pub from_start : (t img : List ℕ) → replay_on 512 img 0 (read_trace t) ≡ replay_from t img 0 0
unfolding read_trace
from_start t img = rw sub-zero

module _ (t img : List ℕ) (k at : ℕ) where
  pub replay_end : length t ≤ at → replay_from t img k at ≡ replay_of (replayed k) img
  unfolding replay_on
  replay_end h = rw (from_end t (length t - at) at h)

  module _ (h : at < length t) where
    pub replay_malformed : malformed ≡ read_record t at → replay_from t img k at ≡ replay_of (malformed_at (k + 1)) img
    unfolding replay_on
    replay_malformed e = rw (from_step t at h, ← e, add-one)

    module _ (r : Record) (next : ℕ) (e : parsed r next ≡ read_record t at) (b : Bool) (a : b ≡ agrees (run 512 img r.call) r.expected) (new : List ℕ) (left : new ≡ (run 512 img r.call).image) where
      -- what its request has done stays
      pub replay_differs : b ≡ false → replay_from t img k at ≡ replay_of (differs_at (k + 1)) new
      unfolding replay_on
      replay_differs f = rw (from_step t at h, ← e, sym a ∙ f, add-one, left)

      pub replay_next : b ≡ true → replay_from t img k at ≡ replay_from t new (k + 1) next
      unfolding replay_on
      replay_next f = rw (from_step t at h, ← e, sym a ∙ f, add-one, left)

-- what replay comes to, in two parts
pub record Comes (t img : List ℕ) (x : Replayed) (new : List ℕ) : Type 0 where
  pub result : x ≡ (replay_on 512 img 0 (read_trace t)).result
  pub image : new ≡ (replay_on 512 img 0 (read_trace t)).image

pub comes : (t img new : List ℕ) (x : Replayed) → replay_on 512 img 0 (read_trace t) ≡ replay_of x new → Comes t img x new
comes t img new x e = record { result = ap (λ (y : Replay). y.result) (sym e); image = ap (λ (y : Replay). y.image) (sym e) }
