-- What a bus's state says. Assumes nothing.
--     log s             the used part of the list
--     queue s k         the frames that wait for board k: those of the entries for k
--     roomy s k         whether board k is open: the used part leaves 66 words or more, whichever board it is
--     weight fs         the words that the frames fs take, each behind its receiver and length
--     taken n w         the words that the lists w of n boards take
--     Free s free       free words are left beside what the lists take, and openness is read off them
--     NewBus n w s      s is for n boards over the list w, and nothing waits
--     Made n w r        the answer r to the making of a bus for n boards over the list w
use Rattle.std.specs.Prelude.{◌≡◌, ℕ, zero, suc, ◌+◌, Bool, List, [], ◌∷◌, length, take, Some, None, vec_items, vec_len, Result, MatchResult, nat_le}
use Rattle.std.specs.Global.{Vec}
use Rattle.faults.specs.declared.fault.Call.TheVariants.{Make}
use Rattle.faults.specs.declared.fault.Layer.TheVariants.{Links}
use Rattle.buses.specs.Entries.{entries, addressed}
use Rattle.links.specs.Frames.{most_entry}
use Rattle.links.specs.Refusals.{bus_refusal}
use Rattle.buses.specs.declared.bus.Bus.{Bus}
use Rattle.buses.specs.declared.bus.Refusal.{Refusal}

abbrev pub log : Bus → List ℕ
log s = take s.used (vec_items s.words)

abbrev pub queue : Bus → ℕ → List (List ℕ)
queue s k = addressed k (entries (log s))

abbrev pub roomy : Bus → ℕ → Bool
roomy s k = nat_le (s.used + most_entry) (vec_len s.words)

abbrev pub weight : List (List ℕ) → ℕ
weight [] = 0
weight (f ∷ fs) = 2 + length f + weight fs

abbrev pub taken : ℕ → (ℕ → List (List ℕ)) → ℕ
taken zero w = 0
taken (suc n) w = weight (w n) + taken n w

pub record Free (s : Bus) (free : ℕ) : Type 0 where
  pub rest : taken s.boards (queue s) + free ≡ vec_len s.words
  pub opens : (k : ℕ) → roomy s k ≡ nat_le most_entry free

pub record NewBus (n : ℕ) (words : Vec ℕ) (s : Bus) : Type 0 where
  pub count : s.boards ≡ n
  pub list : s.words ≡ words
  pub empty : (k : ℕ) → queue s k ≡ []
  pub unused : s.used ≡ 0

-- a refusal hands the list back with the fault
abbrev pub Made : ℕ → Vec ℕ → Result Bus Refusal → Type 0
Made n words r =
    MatchResult r (λ s. (bus_refusal n (vec_len words) ≡ None) × NewBus n words s)
    (λ e. (bus_refusal n (vec_len words) ≡ Some e.fault.cause) × (e.fault.layer ≡ Links) × (e.fault.call ≡ Make) × (e.words ≡ words))
