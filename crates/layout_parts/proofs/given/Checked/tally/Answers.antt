use Rattle.std.proofs.Common.{◌≡◌, ℕ, ◌+◌, ◌<◌, ◌≢◌, get_or, ap, ◌∙◌, arith}
use Rattle.std.proofs.lemmas.List.{get_or-set_other, length-replicate, length-set}
use Rattle.splits.specs.Blocks.{blocks}
use Rattle.splits.specs.Places.{start, held}
use Rattle.layout_parts.specs.Given.{checked_grid}
use Rattle.layout_parts.proofs.Checked.{counted, in_blocks, in_tables, board, little}
use Rattle.layout_parts.proofs.Tables.{entry_more, tally_more, zeros}
use Rattle.layout_parts.proofs.given.Checked.tally.Goals as goal

pub loop-b-init : goal.loop-b-init
loop-b-init c =
    record {
      started = λ k h. absurd (omega arith);
      tallied = λ p h. zeros 16 p;
      long = (length-replicate {A = ℕ} 1024 0, length-replicate {A = ℕ} 16 0);
      blank = λ k h. zeros 1024 k;
    }

pub offset_bounds-starts-b : goal.offset_bounds-starts-b
offset_bounds-starts-b c = omega (arith, in_tables c.args.self c.loop-b.b c.loop-b-test.true)

pub bounds-starts-b : goal.bounds-starts-b
bounds-starts-b c = in_tables c.args.self c.loop-b.b c.loop-b-test.true

pub block_room-requires : goal.block_room-requires
block_room-requires c = in_blocks c.args.self c.loop-b.b c.loop-b-test.true

pub overflow_cast-totals : goal.overflow_cast-totals
overflow_cast-totals c =
    let l : c.loop-b.b < blocks (checked_grid c.args.self) = in_blocks c.args.self c.loop-b.b c.loop-b-test.true in
    omega (arith, c.block_room.ensures, little c.args.self c.loop-b.b l)

pub overflow_add-totals : goal.overflow_add-totals
overflow_add-totals c =
    let k = c.args.self in
    let b = c.loop-b.b in
    let l : b < blocks (checked_grid k) = in_blocks k b c.loop-b-test.true in
    omega (arith, c.loop-b.invariant.tallied (get_or k.given.owners.now b 0) (board k b c.loop-b-test.true), c.block_room.ensures, little k b l)

pub loop-b-preserved : goal.loop-b-preserved
loop-b-preserved c =
    let k = c.args.self in
    let g = checked_grid k in
    let b = c.loop-b.b in
    let owner = get_or k.given.owners.now b 0 in
    let ts = c.loop-b.totals in
    let p = board k b c.loop-b-test.true in
    let n = c.loop-b.invariant.long.1 in
    let v = get_or ts owner 0 + c.block_room.result in
    record {
      started = entry_more (start g) c.loop-b.starts b (get_or ts owner 0) (omega (arith, c.loop-b.invariant.long.0, in_tables k b c.loop-b-test.true)) (c.loop-b.invariant.tallied owner p) c.loop-b.invariant.started;
      tallied = λ q h. tally_more g b ts v (omega (arith, n, p)) (ap (λ x. get_or ts owner 0 + x) c.block_room.ensures) (λ q h. c.loop-b.invariant.tallied q (omega (arith, n, h))) q (omega (arith, n, h));
      long = (length-set c.loop-b.starts b (get_or ts owner 0) ∙ c.loop-b.invariant.long.0, length-set ts owner v ∙ n);
      blank = λ j h. (let other : j ≢ b = omega arith in get_or-set_other c.loop-b.starts b j (get_or ts owner 0) 0 other ∙ c.loop-b.invariant.blank j (omega arith));
    }

pub returns-clause-totals : goal.returns-clause-totals
returns-clause-totals c =
    let k = c.args.self in
    let e : c.loop-b.b ≡ blocks (checked_grid k) = omega (arith, counted k) in
    λ p h. c.loop-b.invariant.tallied p h ∙ ap (held (checked_grid k) p) e
