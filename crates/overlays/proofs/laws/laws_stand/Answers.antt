use Rattle.std.proofs.Common.{refl}
use Rattle.overlays.proofs.Cells.{tiled, in_blocks}
use Rattle.overlays.proofs.Packages.{by_cells, adds_up}
use Rattle.overlays.proofs.Rising.{union_once}
use Rattle.overlays.proofs.laws.laws_stand.Goals as goal

pub returns : goal.returns
returns c =
    record {
      value = refl;
      once = union_once;
      tiled = tiled;
      blocks = in_blocks;
      cells = by_cells;
      sums = adds_up;
      bytes = (refl, refl, refl, refl);
    }
