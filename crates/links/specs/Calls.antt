-- What each call of a link promises, over what the link says of a state: `boards`, the count of boards; `waiting`, each
-- board's list of frames, oldest first; `ready`, whether a board is open. Assumes nothing.
--     Put boards waiting ready s board frame r t     put, from state s to t with the answer r
--     Look boards waiting s board room r after       look, at state s, with a buffer of `room` before and `after` at the end
--     Drop boards waiting s board r t                drop, from state s to t
-- Look and Drop are the receiving side, and say nothing of openness.
use Rattle.std.specs.Prelude.{◌≡◌, ℕ, Bool, List, ◌++◌, length, drop, Result}
use Rattle.faults.specs.Answers.{Answers}
use Rattle.faults.specs.declared.fault.Fault.{Fault}
use Rattle.faults.specs.declared.fault.Call.TheVariants as call
use Rattle.faults.specs.declared.fault.Layer.TheVariants as layer
use Rattle.links.specs.Frames.{Frame, oldest, appended, removed}
use Rattle.links.specs.Refusals.{put_refusal, look_refusal, drop_refusal}

-- the frame goes to the end of its receiver's list, and nothing else changes
pub record PutDone {S : Type 0} (boards : S → ℕ) (waiting : S → ℕ → List (List ℕ)) (s : S) (board : ℕ) (frame : List ℕ) (t : S) : Type 0 where
  pub count : boards t ≡ boards s
  pub lists : (k : ℕ) → waiting t k ≡ appended (waiting s) board frame k

-- the oldest frame, of `len` words, stands at the front of the buffer, and the rest of the buffer is as before
pub record LookDone (frames : List (List ℕ)) (before : List ℕ) (len : ℕ) (after : List ℕ) : Type 0 where
  pub size : len ≡ length (oldest frames)
  pub frame : Frame (oldest frames)
  pub copied : after ≡ oldest frames ++ drop len before

-- the oldest frame of the board is gone, and nothing else changes
pub record DropDone {S : Type 0} (boards : S → ℕ) (waiting : S → ℕ → List (List ℕ)) (s : S) (board : ℕ) (t : S) : Type 0 where
  pub count : boards t ≡ boards s
  pub lists : (k : ℕ) → waiting t k ≡ removed (waiting s) board k

abbrev pub Put : {S U : Type 0} → (S → ℕ) → (S → ℕ → List (List ℕ)) → (S → ℕ → Bool) → S → ℕ → List ℕ → Result U Fault → S → Type 0
Put boards waiting ready s board frame r t =
    Answers layer.Links call.Put (put_refusal (boards s) (ready s board) board (length frame)) r (λ _. PutDone boards waiting s board frame t) (t ≡ s)

abbrev pub Look : {S : Type 0} → (S → ℕ) → (S → ℕ → List (List ℕ)) → S → ℕ → List ℕ → Result ℕ Fault → List ℕ → Type 0
Look boards waiting s board room r after =
    Answers layer.Links call.Look (look_refusal (boards s) board (length room) (waiting s board)) r (λ len. LookDone (waiting s board) room len after) (after ≡ room)

abbrev pub Drop : {S U : Type 0} → (S → ℕ) → (S → ℕ → List (List ℕ)) → S → ℕ → Result U Fault → S → Type 0
Drop boards waiting s board r t =
    Answers layer.Links call.Drop (drop_refusal (boards s) board (waiting s board)) r (λ _. DropDone boards waiting s board t) (t ≡ s)
