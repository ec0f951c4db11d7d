use Rattle.std.proofs.Common.{get_or, sym, refl, ap, ◌∙◌}
use mathlib.Core.Path.{subst⁻¹}
use Rattle.job_words.proofs.Reading.{plus_writes_none, plain_reads}
use Rattle.job_words.specs.Numerals.{Reads}
use Rattle.job_words.proofs.numbers.value.Goals as goal

pub returns-then-is_signed : goal.returns-then-is_signed
returns-then-is_signed c = record {
  cases = plus_writes_none 64 c.args.word.now
      (ap (λ w. get_or w 0 0) (sym c.as_bytes.ensures.value) ∙ c.if-is_signed.ensures.signed refl);
}

pub returns : goal.returns
returns c = record {
  cases = subst⁻¹ (λ r. Reads 64 (λ n. n) c.args.word.now r) c.ok.ensures.value
      (plain_reads 64 c.args.word.now c.parse.result c.parse.ensures.value.0
      (λ e. c.if-is_signed.ensures.plain refl (ap (λ w. get_or w 0 0) c.as_bytes.ensures.value ∙ e)));
}
