-- The requests that a replay runs: the image is theirs, and what stands under a name that no record names stays.
use Rattle.std.specs.Prelude.{◌≡◌, Bool, cond, take, T}
use Rattle.std.proofs.Math.Path.{refl, ap}
use Rattle.std.proofs.Common.{◌∙◌}
use Rattle.std.proofs.Math.Bool.{true, false}
use Prim.Native.Nat.{ℕ, zero, suc, ◌-◌, ◌≤◌}
use mathlib.Core.List.{List, [], ◌∷◌, map}
use native.Mathlib.Omega.{arith}
use Rattle.tfs_spec.specs.Layout.{BlockSize, contents}
use Rattle.tfs_spec.specs.Check.{Verdict, consistent, broken, check}
use Rattle.tfs_spec.specs.Requests.{checked, requests, after_all}
use Rattle.tfs_spec.specs.Traces.{Call, creating, removing, reading, writing, counting, Record, Trace, finished, spoiled, holds, read_trace}
use Rattle.tfs_spec.specs.Histories.{Never, ChangesName, changed}
use Rattle.tfs_spec.specs.Replays.{request_of, run, agrees, differs_at, denied, Replay, replay_of, replay_on, replay, after_calls, calls_of, named, records_of, ran_count, ran, Unnamed}
use Rattle.tfs_proofs.specs.Histories.{history-law}

-- of a replay that began behind k records and came to y: it ran the first of the calls cs
record Ran (B : ℕ) (img : List ℕ) (k : ℕ) (cs : List Call) (y : Replay) : Type 0 where
  from : k ≤ ran_count y.result
  image : y.image ≡ after_calls B img (take (ran_count y.result - k) cs)

module _ (B : ℕ) where
  ran-none : (img : List ℕ) (k : ℕ) (cs : List Call) (y : Replay) → ran_count y.result ≡ k → y.image ≡ img → Ran B img k cs y
  unfolding after_all
  ran-none img k cs y e same =
      let none : ran_count y.result - k ≡ 0 = omega arith in
      record { from = omega arith; image = rw none same }

  ran-more : (img : List ℕ) (k : ℕ) (c : Call) (cs : List Call) (y : Replay) → Ran B (run B img c).image (suc k) cs y → Ran B img k (c ∷ cs) y
  unfolding after_all
  ran-more img k c cs y w =
      let more : ran_count y.result - k ≡ suc (ran_count y.result - suc k) = omega arith in
      record { from = omega arith; image = rw more w.image }

  on-ran : (x : Trace) (img : List ℕ) (k : ℕ) → Ran B img k (calls_of (records_of x)) (replay_on B img k x)
  unfolding replay_on
  on-ran finished img k = ran-none img k [] (replay_on B img k finished) refl refl
  on-ran spoiled img k = ran-none img k [] (replay_on B img k spoiled) (omega arith) refl
  on-ran (holds r x) img k =
      ran-more img k r.call (calls_of (records_of x)) (replay_on B img k (holds r x)) (go (agrees (run B img r.call) r.expected) (on-ran x (run B img r.call).image (suc k)))
    where
      go : (b : Bool) → Ran B (run B img r.call).image (suc k) (calls_of (records_of x)) (replay_on B (run B img r.call).image (suc k) x)
          → Ran B (run B img r.call).image (suc k) (calls_of (records_of x)) (cond {A = Replay} b (replay_on B (run B img r.call).image (suc k) x) (replay_of (differs_at (suc k)) (run B img r.call).image))
      go true w = w
      go false w = ran-none (run B img r.call).image (suc k) (calls_of (records_of x)) (replay_of (differs_at (suc k)) (run B img r.call).image) refl refl

  pub runs : (img t : List ℕ) → (replay B img t).image ≡ after_calls B img (ran B img t)
  unfolding replay ran
  runs img t =
      let n : ℕ = ran_count (replay B img t).result in
      let all : n - 0 ≡ n = omega arith in
      (go (check B img)).image ∙ ap (λ (m : ℕ). after_calls B img (take m (calls_of (records_of (read_trace t))))) all
    where
      go : (v : Verdict) → Ran B img 0 (calls_of (records_of (read_trace t))) (checked v (λ num p. replay_of (denied num p) img) (replay_on B img 0 (read_trace t)))
      go consistent = on-ran (read_trace t) img 0
      go (broken num p) = ran-none img 0 (calls_of (records_of (read_trace t))) (replay_of (denied num p) img) refl refl

  -- ---- names that no record names
  module _ (nm : List ℕ) where
    names : (img : List ℕ) (c : Call) → ChangesName B nm img (requests (request_of c)) → T (named nm c)
    names img (creating k z) (changed c same g) = same
    names img (removing k) (changed c same g) = same
    names img (writing k o bs) (changed c same g) = same
    names img (reading _ _ _) x = elim x [ ]
    names img counting x = elim x [ ]

    unnamed : (n : ℕ) (rs : List Record) (img : List ℕ) → Unnamed nm rs → Never B (ChangesName B nm) img (map (λ c. requests (request_of c)) (take n (calls_of rs)))
    unnamed zero rs img h = tt
    unnamed (suc n) [] img h = tt
    unnamed (suc n) (r ∷ rs) img h = ((λ w. h.0 (names img r.call w)), unnamed n rs (run B img r.call).image h.1)

pub unnamed-kept : (B : ℕ) → BlockSize B → (img t nm : List ℕ) → Unnamed nm (records_of (read_trace t)) → contents B (replay B img t).image nm ≡ contents B img nm
unfolding ran
unnamed-kept B sz img t nm h =
    let n : ℕ = ran_count (replay B img t).result in
    let rs : List Record = records_of (read_trace t) in
    ap (λ (x : List ℕ). contents B x nm) (runs B img t)
    ∙ (history-law B sz img).others (map (λ c. requests (request_of c)) (take n (calls_of rs))) nm (unnamed B nm n rs img h)
