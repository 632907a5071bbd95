use Rattle.std.proofs.Common.{arith}
use Rattle.mirror.specs.laws.ReadLaws.{gathered_within}
use Rattle.trace.proofs.records.read_part.Goals as goal

pub slice_bounds-read_records-count : goal.slice_bounds-read_records-count
slice_bounds-read_records-count c = gathered_within _ c.args.part.now c.fill-filled.result c.fill-filled.ensures

pub slice_bounds-read_records-start : goal.slice_bounds-read_records-start
slice_bounds-read_records-start c =
    omega (arith, gathered_within _ c.args.part.now c.fill-filled.result c.fill-filled.ensures)
