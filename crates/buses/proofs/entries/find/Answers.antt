use Rattle.std.proofs.Common.{arith}
use Rattle.buses.proofs.Searched.{passed_more, passed_all, passed_within, fits_behind, found_here}
use Rattle.buses.proofs.entries.find.Goals as goal

pub overflow_sub-result : goal.overflow_sub-result
overflow_sub-result c = omega (arith, passed_within c.requires.0 c.args.board c.args.words.now c.loop-rest.rest.now c.requires.1 c.loop-rest.invariant)

pub returns-then-receiver-board : goal.returns-then-receiver-board
returns-then-receiver-board c =
    found_here c.args.board c.args.words.now c.loop-rest.rest.now c.in-len2-up.len_at_least c.loop-rest.invariant c.requires.0 c.requires.1 c.if-receiver-board.true

pub slice_bounds-rest-count : goal.slice_bounds-rest-count
slice_bounds-rest-count c = fits_behind c.args.board c.args.words.now c.loop-rest.rest.now c.in-len2-up.len_at_least c.loop-rest.invariant

pub slice_bounds-rest-start : goal.slice_bounds-rest-start
slice_bounds-rest-start c = fits_behind c.args.board c.args.words.now c.loop-rest.rest.now c.in-len2-up.len_at_least c.loop-rest.invariant

pub loop-rest-preserved : goal.loop-rest-preserved
loop-rest-preserved c = passed_more c.args.board c.args.words.now c.loop-rest.rest.now c.in-len2-up.len_at_least c.loop-rest.invariant c.if-receiver-board.false

pub returns : goal.returns
returns c = passed_all c.args.board c.args.words.now c.loop-rest.rest.now c.in_default.len_below c.loop-rest.invariant
