-- The log of a bus whose list was changed as a slice and stored back.
use Rattle.std.proofs.Common.{◌≡◌, ℕ, ◌+◌, ◌<◌, ◌≤◌, List, ◌∷◌, ◌++◌, length, get_or, take, drop, sym, ap, ◌∙◌, subst, arith}
use Rattle.std.proofs.lemmas.List.{get_or-take, length-take-le, with_items_is}
use Rattle.std.specs.Vec.{with_items}
use Rattle.buses.specs.Buses.{log, queue}
use Rattle.buses.specs.Entries.{Whole, Found, addressed, entries}
use Rattle.links.specs.Frames.{appended, removed}
use Rattle.buses.specs.declared.bus.Bus.{Bus}
use Rattle.buses.specs.Carried.{put_whole, put_queue, drop_whole, drop_queue}

pub bus_whole : (s : Bus) → Whole s.boards (log s)
bus_whole s = record { kept = s.kept; legal = s.legal }

-- w is the list as the call found it, and ws as it left it
module _ (s : Bus) (w ws : List ℕ) (is : w ≡ s.words.items) (len : length ws ≡ s.words.len) where
  whole_as : Whole s.boards (take s.used w)
  whole_as = subst (λ (t : List ℕ). Whole s.boards (take s.used t)) (sym is) (bus_whole s)

  within_list : s.used ≤ length w
  within_list = let l : s.words.len ≡ length s.words.items = s.words.ok.0 in omega (arith, s.fits, ap length is)

  stored : (r : ℕ) → take r ws ≡ take r (with_items s.words ws).items
  stored r = ap (take r) (sym (with_items_is s.words ws len))

  whole_stored : (r : ℕ) → Whole s.boards (take r ws) → Whole s.boards (take r (with_items s.words ws).items)
  whole_stored r h = subst (Whole s.boards) (stored r) h

  queue_stored : (r k : ℕ) → addressed k (entries (take r (with_items s.words ws).items)) ≡ addressed k (entries (take r ws))
  queue_stored r k = ap (λ (t : List ℕ). addressed k (entries t)) (sym (stored r))

  module _ (b : ℕ) (f : List ℕ) (lt : b < s.boards) (one : 1 ≤ length f) (most : length f ≤ 64)
      (e : ws ≡ take s.used w ++ (b ∷ length f ∷ f) ++ drop (s.used + 2 + length f) w) where
    pub put_kept : Whole s.boards (take (s.used + 2 + length f) (with_items s.words ws).items)
    put_kept = whole_stored (s.used + 2 + length f) (put_whole s.boards s.used b w f ws whole_as within_list lt one most e)

    pub put_lists : (k : ℕ) → addressed k (entries (take (s.used + 2 + length f) (with_items s.words ws).items)) ≡ appended (queue s) b f k
    put_lists k =
        queue_stored (s.used + 2 + length f) k ∙ put_queue s.boards s.used b w f ws whole_as within_list lt one most e k
        ∙ ap (λ (t : List ℕ). appended (λ j. addressed j (entries (take s.used t))) b f k) is

  module _ (b at r : ℕ) (x : Found b (log s) at)
      (a : take r ws ≡ take at w ++ drop (at + 2 + get_or w (at + 1) 0) (take s.used w)) where
    found_as : Found b (take s.used w) at
    found_as = subst (λ (t : List ℕ). Found b (take s.used t) at) (sym is) x

    after_as : take r ws ≡ take at w ++ drop (at + 2 + length found_as.frame) (take s.used w)
    after_as =
        let y = found_as in
        let l : at + 1 < s.used = omega (arith, y.inside, length-take-le s.used w within_list) in
        let size : get_or w (at + 1) 0 ≡ length y.frame = sym (get_or-take s.used w (at + 1) 0 l) ∙ y.size in
        a ∙ ap (λ (n : ℕ). take at w ++ drop (at + 2 + n) (take s.used w)) size

    pub drop_kept : Whole s.boards (take r (with_items s.words ws).items)
    drop_kept = whole_stored r (drop_whole s.boards s.used b at r w ws whole_as found_as within_list after_as)

    pub drop_lists : (k : ℕ) → addressed k (entries (take r (with_items s.words ws).items)) ≡ removed (queue s) b k
    drop_lists k =
        queue_stored r k ∙ drop_queue s.boards s.used b at r w ws whole_as found_as within_list after_as k
        ∙ ap (λ (t : List ℕ). removed (λ j. addressed j (entries (take s.used t))) b k) is
