-- Any two allowed answers are equal: each public function of `mirror`, and what its contract ensures.
use Rattle.std.specs.Prelude.{refl}
use Rattle.std.proofs.Common.{sym, ◌∙◌}
use seplogic.Ra.Ura.{Ura}
use base.Logic.{SProp}
use prog.Memory.{Memory}
use prog.Routine.{Routine}
use types.Logic.{Logic}
use contract.Monad.{Fun}
use Rattle.mirror.specs.contracts.answer.Answer.number as answer·number
use Rattle.mirror.specs.contracts.answer.Answer.clocked as answer·clocked
use Rattle.mirror.specs.contracts.answer.Answer.place as answer·place
use Rattle.mirror.specs.contracts.answer.Answer.name as answer·name
use Rattle.mirror.specs.contracts.answer.Refusal.number as refusal·number
use Rattle.mirror.specs.contracts.half.Half.fits as half·fits
use Rattle.mirror.specs.contracts.panel.Panel.fresh as panel·fresh
use Rattle.mirror.specs.contracts.panel.Panel.sound as panel·sound
use Rattle.mirror.specs.contracts.panel.Panel.«record» as panel·record
use Rattle.mirror.specs.contracts.panel.Panel.written as panel·written
use Rattle.mirror.specs.contracts.stream.Stream.start as stream·start
use Rattle.mirror.specs.contracts.stream.Stream.next as stream·next
use Rattle.mirror.specs.contracts.stream.Stream.feed as stream·feed
use Rattle.mirror.specs.contracts.stream.Stream.end as stream·end
use Rattle.mirror.specs.contracts.panel.Panel.run as panel·run
use Rattle.mirror.specs.contracts.stream.Reply.refusal as reply·refusal
use Rattle.mirror.specs.contracts.stream.Run.refusal as run·refusal
use Rattle.mirror.specs.contracts.stream.Stream.panel as stream·panel
use Rattle.mirror.specs.contracts.stream.Stream.number as stream·number
use Rattle.mirror.specs.contracts.stream.Stream.front as stream·front
use Rattle.mirror.specs.contracts.count.raise as count·raise
use Rattle.mirror.specs.contracts.count.tally as count·tally
use Rattle.mirror.specs.contracts.reading.Reading.answer as reading·answer
use Rattle.mirror.specs.contracts.reading.Reading.eight as reading·eight
use Rattle.mirror.specs.contracts.reading.Reading.half as reading·half
use Rattle.mirror.specs.contracts.reading.Reading.last as reading·last
use Rattle.mirror.specs.contracts.reading.Reading.next as reading·next
use Rattle.mirror.specs.contracts.reading.Reading.number as reading·number
use Rattle.mirror.specs.contracts.reading.Reading.of as reading·of
use Rattle.mirror.specs.contracts.reading.Reading.used as reading·used
use Rattle.mirror.specs.contracts.stream.Stream.ended as stream·ended
use Rattle.mirror.specs.contracts.stream.Stream.gathered as stream·gathered
use Rattle.mirror.specs.contracts.stream.Stream.read as stream·read
use Rattle.mirror.specs.laws.ReadLaws.{Left, steps_one}
use Rattle.demands.specs.Unique.{Determines, DeterminesAnswer, DeterminesShown, answer, equation, shown_equation}
use denote.RattleType.{RattleType}
use mir.Syntax.{Dict}
use Rattle.std.specs.declared.clone.Clone as Clone

module _ {M : Type 1} {𝓤 : Ura M} (𝓛 : Logic 𝓤) (mem : Memory → SProp 𝓤) (run : Routine → Fun 𝓤) where
  -- mirror::answer::Answer::number: result ≡ number_of self
  pub answer_number : DeterminesAnswer 𝓤 answer·number.ended (answer·number.clauses 𝓛 mem run)
  answer_number = equation 𝓤 _ _ _ (λ κs a g r e. refl)

  -- mirror::answer::Answer::clocked: result ≡ clocked (number_of self)
  pub answer_clocked : DeterminesAnswer 𝓤 answer·clocked.ended (answer·clocked.clauses 𝓛 mem run)
  answer_clocked = equation 𝓤 _ _ _ (λ κs a g r e. refl)

  -- mirror::answer::Answer::place: result ≡ place_of (number_of self)
  pub answer_place : DeterminesAnswer 𝓤 answer·place.ended (answer·place.clauses 𝓛 mem run)
  answer_place = equation 𝓤 _ _ _ (λ κs a g r e. refl)

  -- mirror::answer::Answer::name: result.now ≡ name_of self
  pub answer_name : DeterminesShown 𝓤 answer·name.ended (answer·name.clauses 𝓛 mem run) (λ κs r. r.now)
  answer_name = shown_equation 𝓤 _ _ _ _ (λ κs a g r e. refl)

  -- mirror::answer::Refusal::number: result ≡ refusal_number self
  pub refusal_number : DeterminesAnswer 𝓤 refusal·number.ended (refusal·number.clauses 𝓛 mem run)
  refusal_number = equation 𝓤 _ _ _ (λ κs a g r e. refl)

  -- mirror::half::Half::fits: result ≡ half_fits eight self
  pub half_fits : DeterminesAnswer 𝓤 half·fits.ended (half·fits.clauses 𝓛 mem run)
  half_fits = equation 𝓤 _ _ _ (λ κs a g r e. refl)

  -- mirror::panel::Panel::fresh: result ≡ fresh_panel chip reset long short
  pub panel_fresh : DeterminesAnswer 𝓤 panel·fresh.ended (panel·fresh.clauses 𝓛 mem run)
  panel_fresh = equation 𝓤 _ _ _ (λ κs a g r e. refl)

  -- mirror::panel::Panel::sound: result ≡ sound_panel self
  pub panel_sound : DeterminesAnswer 𝓤 panel·sound.ended (panel·sound.clauses 𝓛 mem run)
  panel_sound = equation 𝓤 _ _ _ (λ κs a g r e. refl)

  -- mirror::panel::Panel::record: Records self log.now result
  pub panel_record : DeterminesAnswer 𝓤 panel·record.ended (panel·record.clauses 𝓛 mem run)
  panel_record = answer 𝓤 _ _ _ (λ κs a g r e. refl) (λ κs a r s e f p q. p.is ∙ sym q.is)

  -- mirror::panel::Panel::written: Tells self result
  pub panel_written : DeterminesAnswer 𝓤 panel·written.ended (panel·written.clauses 𝓛 mem run)
  panel_written = answer 𝓤 _ _ _ (λ κs a g r e. refl) (λ κs a r s e f p q. p.told ∙ sym q.told)

  -- mirror::stream::Stream::start: result ≡ start_of panel
  pub stream_start : DeterminesAnswer 𝓤 stream·start.ended (stream·start.clauses 𝓛 mem run)
  stream_start = equation 𝓤 _ _ _ (λ κs a g r e. refl)

  -- mirror::stream::Stream::feed: result ≡ feed_of self part.now
  pub stream_feed : DeterminesAnswer 𝓤 stream·feed.ended (stream·feed.clauses 𝓛 mem run)
  stream_feed = equation 𝓤 _ _ _ (λ κs a g r e. refl)

  -- mirror::stream::Stream::next: Replies self part.now result
  pub stream_next : DeterminesAnswer 𝓤 stream·next.ended (stream·next.clauses 𝓛 mem run)
  stream_next = answer 𝓤 _ _ _ (λ κs a g r e. refl) (λ κs a r s e f p q. p.is ∙ sym q.is)

  -- mirror::stream::Stream::end: result ≡ end_of self
  pub stream_end : DeterminesAnswer 𝓤 stream·end.ended (stream·end.clauses 𝓛 mem run)
  stream_end = equation 𝓤 _ _ _ (λ κs a g r e. refl)

  -- mirror::panel::Panel::run: Runs self log.now result
  pub panel_run : DeterminesAnswer 𝓤 panel·run.ended (panel·run.clauses 𝓛 mem run)
  panel_run = answer 𝓤 _ _ _ (λ κs a g r e. refl) (λ κs a r s e f p q. p.is ∙ sym q.is)

  -- mirror::count::raise: result ≡ raised n
  pub raise : DeterminesAnswer 𝓤 count·raise.ended (count·raise.clauses 𝓛 mem run)
  raise = equation 𝓤 _ _ _ (λ κs a g r e. refl)

  -- mirror::count::tally: counts.new ≡ tallied counts.old answer
  pub tally : Determines 𝓤 count·tally.ended (count·tally.clauses 𝓛 mem run) (λ κs e. e.0.now)
  tally = record { Says = _; stated = λ κs a g r e. refl; one = λ κs a r s e f p q. (refl, p ∙ sym q) }

  -- mirror::stream::Reply::refusal: result ≡ end_refusal self
  pub reply_refusal : (T : RattleType) (G : Clone.Ghosts T.Denot) (d : Dict) → DeterminesAnswer 𝓤 (reply·refusal.ended T G d) (reply·refusal.clauses T G d 𝓛 mem run)
  reply_refusal T G d = equation 𝓤 _ _ _ (λ κs a g r e. refl)

  -- mirror::stream::Run::refusal: result ≡ run_refusal self
  pub run_refusal : DeterminesAnswer 𝓤 run·refusal.ended (run·refusal.clauses 𝓛 mem run)
  run_refusal = equation 𝓤 _ _ _ (λ κs a g r e. refl)

  -- mirror::stream::Stream::panel: result ≡ panel_in self
  pub stream_panel : DeterminesAnswer 𝓤 stream·panel.ended (stream·panel.clauses 𝓛 mem run)
  stream_panel = equation 𝓤 _ _ _ (λ κs a g r e. refl)

  -- mirror::stream::Stream::number: result ≡ number_in self
  pub stream_number : DeterminesAnswer 𝓤 stream·number.ended (stream·number.clauses 𝓛 mem run)
  stream_number = equation 𝓤 _ _ _ (λ κs a g r e. refl)

  -- mirror::stream::Stream::front: result ≡ front_of self part.now
  pub stream_front : DeterminesAnswer 𝓤 stream·front.ended (stream·front.clauses 𝓛 mem run)
  stream_front = equation 𝓤 _ _ _ (λ κs a g r e. refl)

  -- mirror::reading::Reading::of: result ≡ reading_of panel records
  pub reading_of : DeterminesAnswer 𝓤 reading·of.ended (reading·of.clauses 𝓛 mem run)
  reading_of = equation 𝓤 _ _ _ (λ κs a g r e. refl)

  -- mirror::reading::Reading::next: Steps self.old log.now display.old pattern.old counts.old self.new display.new pattern.new counts.new
  pub reading_next : Determines 𝓤 reading·next.ended (reading·next.clauses 𝓛 mem run) {L = Left} (λ κs e. (e.0.now, e.1.1.0.now, e.1.1.1.0.now, e.1.1.1.1.0.now))
  reading_next = record { Says = _; stated = λ κs a g r e. refl; one = λ κs a r s e f p q. (refl, steps_one _ _ _ _ _ _ _ _ _ _ _ _ _ p q) }

  -- mirror::reading::Reading::answer: result ≡ answer_read self
  pub reading_answer : DeterminesAnswer 𝓤 reading·answer.ended (reading·answer.clauses 𝓛 mem run)
  reading_answer = equation 𝓤 _ _ _ (λ κs a g r e. refl)

  -- mirror::reading::Reading::eight: result ≡ eight_read self
  pub reading_eight : DeterminesAnswer 𝓤 reading·eight.ended (reading·eight.clauses 𝓛 mem run)
  reading_eight = equation 𝓤 _ _ _ (λ κs a g r e. refl)

  -- mirror::reading::Reading::half: result ≡ half_read self
  pub reading_half : DeterminesAnswer 𝓤 reading·half.ended (reading·half.clauses 𝓛 mem run)
  reading_half = equation 𝓤 _ _ _ (λ κs a g r e. refl)

  -- mirror::reading::Reading::last: result ≡ last_read self
  pub reading_last : DeterminesAnswer 𝓤 reading·last.ended (reading·last.clauses 𝓛 mem run)
  reading_last = equation 𝓤 _ _ _ (λ κs a g r e. refl)

  -- mirror::reading::Reading::number: result ≡ raised self.records
  pub reading_number : DeterminesAnswer 𝓤 reading·number.ended (reading·number.clauses 𝓛 mem run)
  reading_number = equation 𝓤 _ _ _ (λ κs a g r e. refl)

  -- mirror::reading::Reading::used: result ≡ used_read self
  pub reading_used : DeterminesAnswer 𝓤 reading·used.ended (reading·used.clauses 𝓛 mem run)
  reading_used = equation 𝓤 _ _ _ (λ κs a g r e. refl)

  -- mirror::stream::Stream::ended: result ≡ ended_of self
  pub stream_ended : DeterminesAnswer 𝓤 stream·ended.ended (stream·ended.clauses 𝓛 mem run)
  stream_ended = equation 𝓤 _ _ _ (λ κs a g r e. refl)

  -- mirror::stream::Stream::gathered: result ≡ filled_of (waiting_bytes self) part.now
  pub stream_gathered : DeterminesAnswer 𝓤 stream·gathered.ended (stream·gathered.clauses 𝓛 mem run)
  stream_gathered = equation 𝓤 _ _ _ (λ κs a g r e. refl)

  -- mirror::stream::Stream::read: result ≡ read_of self (totals_read reading display pattern counts) tail.now
  pub stream_read : DeterminesAnswer 𝓤 stream·read.ended (stream·read.clauses 𝓛 mem run)
  stream_read = equation 𝓤 _ _ _ (λ κs a g r e. refl)
