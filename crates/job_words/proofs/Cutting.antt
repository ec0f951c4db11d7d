-- A text that is cut at its first line feed.
use Rattle.std.proofs.Common.{◌≡◌, ℕ, ◌+◌, ◌-◌, ◌≤◌, ◌==◌, List, [], Some, None, length, get_or, take, drop, position, sym, ap, ◌∙◌, arith, rules}
use mathlib.Core.Path.{subst⁻¹}
use Rattle.std.proofs.lemmas.List.{length-take-le, take_all, take_rest, drop_all}
use Rattle.std.proofs.lemmas.Grind.{common_steps}
use Rattle.std.proofs.lemmas.List.Quantifiers.{position-Some}
use Rattle.std.proofs.lemmas.List.Sums.{fails_before_first}
use Rattle.std.specs.List.{position_or_len}
use Rattle.job_words.specs.Lines.{Line}

pub line_at : (t : List ℕ) (n : ℕ) → Some n ≡ position (λ b. b == 10) t →
    Line t (take n t) (take (length t - (n + 1)) (drop (n + 1) t))
line_at t n at =
    let first = position-Some (λ b. b == 10) t n 0 (sym at) in
    let len : length (take n t) ≡ n = length-take-le n t (omega (arith, first.0)) in
    record {
      before = λ k h. search (rules, first.2 k (omega (arith, len, h)));
      ends = λ h. subst⁻¹ (λ m. get_or t m 0 ≡ 10) len (search (rules, first.1));
      begins = ap (λ m. take m t) (sym len);
      follows = take_rest t (n + 1) ∙ ap (λ m. drop (m + 1) t) (sym len);
    }

pub line_all : (t : List ℕ) → None ≡ position (λ b. b == 10) t → Line t t []
line_all t none =
    let past : length t ≤ position_or_len (λ b. b == 10) t = grind (arith, common_steps) in
    record {
      before = λ k h. search (rules, fails_before_first (λ b. b == 10) t k 0 (omega (arith, h, past)));
      ends = λ h. omega (arith, h);
      begins = sym (take_all (length t) t (omega arith));
      follows = sym (drop_all (length t + 1) t (omega arith));
    }
