-- What a crossbar's state says. Assumes nothing.
--     content x            the frames that the inbox x holds
--     queue s k            the frames that wait for board k: what its inbox holds, and none past the last inbox
--     vacant s k           whether board k is open: its inbox is empty
--     NewCrossbar n s      s is for n boards, and nothing waits
use Rattle.std.specs.Prelude.{◌≡◌, ℕ, Bool, List, [], map, slice_index_or}
use Rattle.links.specs.Frames.{none_waits}
use Rattle.crossbars.specs.Held.{held}
use Rattle.crossbars.specs.declared.crossbar.Crossbar.{Crossbar}
use Rattle.crossbars.specs.declared.inbox.Inbox.{Inbox}

abbrev pub content : Inbox → List (List ℕ)
content x = held x.words x.used

abbrev pub queue : Crossbar → ℕ → List (List ℕ)
queue s k = slice_index_or (map content s.inboxes) k []

abbrev pub vacant : Crossbar → ℕ → Bool
vacant s k = none_waits (queue s k)

pub record NewCrossbar (n : ℕ) (s : Crossbar) : Type 0 where
  pub count : s.boards ≡ n
  pub empty : (k : ℕ) → queue s k ≡ []
