-- When a plan is written, and when it is not.
use Rattle.std.proofs.Common.{Result, Ok, Err, is_ok, ◌≡◌, ℕ, ◌<◌, ◌≤◌, true, false, ◌&&◌, leb, length, take, None, Option, sym, refl, ◌∙◌, subst, arith}
use Rattle.std.proofs.lemmas.List.{get_or-take, length-take-le}
use Rattle.faults.specs.Checks.{Checks}
use Rattle.std.proofs.lemmas.Bool.{both_ways, and_parts, and_from, leb-true, le-leb}
use Rattle.faults.specs.declared.cause.Cause.{Cause}
use Rattle.faults.specs.declared.cause.Cause.TheVariants.{Board, Length, Field}
use Rattle.sheets.specs.Lines.{blank}
use Rattle.sheets.specs.Sheet.{sheet_length, LegalLine, wrong_line}
use Rattle.plans.specs.Sheet.{Legal, write_refusal}
use Rattle.plans.specs.declared.plan.Plan.{Plan}
use Rattle.sheets.proofs.Refusals.{first_way, legal_lines_none, lines_none}

-- what is not refused is legal and has room
pub legal_from_none : (p : Plan) (k : ℕ) → write_refusal p k ≡ None → Legal p × (sheet_length p.boards ≤ k)
unfolding write_refusal
legal_from_none p k e =
    let n = p.boards in
    let a = first_way (leb 1 n && leb n 16) _ (Board n) e in
    let b = first_way (leb (sheet_length n) k) _ (Length (sheet_length n)) a.1 in
    let c = first_way (leb p.bill 281474976710656) _ (Field 1 5) b.1 in
    let limits = and_parts (leb 1 n) (leb n 16) a.0 in
    let few : n ≤ 16 = leb-true n 16 limits.1 in
    let long : length (take n p.lines) ≡ n = length-take-le n p.lines (omega (arith, p.sized)) in (
      record {
        some = leb-true 1 n limits.0;
        few = few;
        bill = leb-true p.bill 281474976710656 c.0;
        lines = λ x h. subst (LegalLine n) (get_or-take n p.lines x blank h) (lines_none n 0 (take n p.lines) c.1 x (omega arith));
      },
      leb-true (sheet_length n) k b.0,
    )

-- what is legal and has room is not refused
pub none_from_legal : (p : Plan) (k : ℕ) → Legal p → sheet_length p.boards ≤ k → write_refusal p k ≡ None
unfolding write_refusal
none_from_legal p k legal room =
    let n = p.boards in
    let long : length (take n p.lines) ≡ n = length-take-le n p.lines (omega (arith, legal.few, p.sized)) in
    let count : (leb 1 p.boards && leb p.boards 16) ≡ true = and_from _ _ (le-leb 1 p.boards legal.some) (le-leb p.boards 16 legal.few) in
    let fits : leb (sheet_length p.boards) k ≡ true = le-leb (sheet_length p.boards) k room in
    let bill : leb p.bill 281474976710656 ≡ true = le-leb p.bill 281474976710656 legal.bill in
    let lines : wrong_line p.boards 0 (take p.boards p.lines) ≡ None =
    legal_lines_none n 0 (take n p.lines)
    (λ x h. let l : x < n = omega arith in subst (LegalLine n) (sym (get_or-take n p.lines x blank l)) (legal.lines x l)) in
    rw (count, fits, bill, lines) refl

-- a check that let pass had no cause
pub passed : {A : Type 0} (o : Option Cause) (r : Result A Cause) (effect : A → Type 0) → true ≡ is_ok r → Checks o r effect → (o ≡ None) × ((x : A) × effect x)
passed o (Ok x) effect t e = (e.0, (x, e.1))
passed o (Err c) effect t e = absurd (both_ways false refl (sym t))

-- the check of a plan whose count, room and bill are right is that of its lines
pub checked : {A : Type 0} (p : Plan) (k : ℕ) (r : Result A Cause) → write_refusal p k ≡ wrong_line p.boards 0 (take p.boards p.lines)
    → Checks (wrong_line p.boards 0 (take p.boards p.lines)) r (λ _. Unit {0}) → Checks (write_refusal p k) r (λ _. Legal p × (sheet_length p.boards ≤ k))
checked p k (Ok x) e (none, _) = (e ∙ none, legal_from_none p k (e ∙ none))
checked p k (Err c) e some = e ∙ some
