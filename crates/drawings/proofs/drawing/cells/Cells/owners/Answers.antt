use Rattle.std.proofs.Common.{ap, ◌∙◌, arith}
use Rattle.drawings.proofs.Drawings.{role_few, sender_few, source_in, target_in}
use Rattle.drawings.proofs.drawing.cells.Cells.owners.Goals as goal
use Rattle.layouts.specs.Layouts.{owner_of}

pub owner_at-sender-requires : goal.owner_at-sender-requires
owner_at-sender-requires c =
    let s = c.args.self.now in
    omega (arith, c.blocks-target.ensures.source, source_in s.operation s.target.now s.source.now s.rows.now s.columns.now s.drawable c.args.i c.args.j c.requires.inside.0 c.requires.inside.1)

pub owner_at-role-requires : goal.owner_at-role-requires
owner_at-role-requires c =
    let s = c.args.self.now in
    omega (arith, c.blocks-target.ensures.target, target_in s.operation s.target.now s.source.now s.rows.now s.columns.now s.drawable c.args.i c.args.j c.requires.inside.0 c.requires.inside.1)

pub returns : goal.returns
returns c =
    let s = c.args.self.now in
    let sender = c.owner_at-sender.ensures ∙ ap (owner_of s.source.now) c.blocks-target.ensures.source in
    let role = c.owner_at-role.ensures ∙ ap (owner_of s.target.now) c.blocks-target.ensures.target in
    record {
      bound = (
        omega (arith, sender, sender_few s.operation s.target.now s.source.now s.rows.now s.columns.now s.drawable c.args.i c.args.j c.requires.inside.0 c.requires.inside.1),
        omega (arith, role, role_few s.operation s.target.now s.source.now s.rows.now s.columns.now s.drawable c.args.i c.args.j c.requires.inside.0 c.requires.inside.1),
      );
      sender = sender;
      role = role;
    }
