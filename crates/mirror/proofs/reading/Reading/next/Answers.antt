use Rattle.mirror.specs.laws.ReadLaws.{steps_counted}
use Rattle.mirror.proofs.reading.Reading.next.Goals as goal

pub returns-then-self-gt0 : goal.returns-then-self-gt0
returns-then-self-gt0 c =
    steps_counted c.args.self.now c.args.log.now _ _ _ _ _ _ _ _ _ c.turn-self.ensures c.if-self-gt0.true c.tally.ensures c.raise-self.ensures
