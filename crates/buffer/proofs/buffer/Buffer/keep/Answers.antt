use Rattle.std.proofs.Common.{ap, ◌∙◌, [], ◌++◌, take}
use Rattle.buffer.specs.declared.buffer.Buffer.{Buffer}
use Rattle.buffer.specs.Buffer.{held_of, buffer_of}
use Rattle.buffer.specs.laws.BufferLaws.{held}
use Rattle.buffer.proofs.buffer.Buffer.keep.Goals as goal

pub returns : goal.returns
returns g c =
    let room = g.row.ROOM in
    let part = c.args.part.now in
    c.extend.ensures
    ∙ ap (λ (b : Buffer room). buffer_of room (take room (held_of b ++ part))) c.empty-kept.ensures
    ∙ ap (λ s. buffer_of room (take room (s ++ part))) (held room [])
