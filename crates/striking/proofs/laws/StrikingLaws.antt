-- Striking holds of every machine that has the laws.
use Rattle.std.specs.Prelude.{Bool, true, false, ◌≡◌, refl}
use Rattle.std.proofs.lemmas.Bool.{false≢true}
use Rattle.std.proofs.Common.{◌∙◌}
use mathlib.Core.List.{List, [], ◌∷◌, Sublistᴰ}
use Rattle.laws.specs.Pick.{pick}
use Rattle.striking.specs.Machine.{Own, stays, goes, waits, Others, keeps, strikes, leaves, Sort, Out, Machine, Answered, answered, events, run, final}
use Rattle.striking.proofs.laws.MachineLaws.{run_events}
use Rattle.striking.specs.Striking.{settled, remains, sort_of, kept_by, unstruck, Struck}
use Rattle.striking.specs.Duties.{if_kept, if_struck, KeeperStays, Follows, Laws}

pick_same : {B : Type 0} (b : Bool) (x : B) → pick b x x ≡ x
pick_same true x = refl
pick_same false x = refl

module _ {E A : Type 0} (sort : E → A → Sort) where
  pick_sublist : (b : Bool) (a : Answered E A) (left : List (Answered E A)) (log : List E) → Sublistᴰ (events left) log →
      Sublistᴰ (events (pick b (a ∷ left) left)) (a.event ∷ log)
  pick_sublist true a left log h = Sublistᴰ.cons-cons refl h
  pick_sublist false a left log h = Sublistᴰ.cons h

  -- striking leaves records out; it adds, changes and moves none
  pub unstruck_sublist : (l : List (Answered E A)) → Sublistᴰ (events (unstruck sort l)) (events l)
  unstruck_sublist [] = Sublistᴰ.slnil
  unstruck_sublist (a ∷ l) = pick_sublist (remains (sort_of sort a).own (kept_by sort l)) a (unstruck sort l) (events l) (unstruck_sublist l)

-- STRIKING TWICE. A record that keeps others stays, so what was kept once is kept again.

kept_again : (own : Own) (others : Others) (before after : Bool) → KeeperStays own others → (before ≡ true → after ≡ true) →
    settled others before ≡ true → pick (remains own before) (settled others after) after ≡ true
kept_again own keeps before after stay h k = rw stay refl
kept_again own strikes before after stay h k = absurd (false≢true k)
kept_again own leaves before after stay h k = pick_same (remains own before) after ∙ h k

remains_again : (own : Own) (before after : Bool) → (before ≡ true → after ≡ true) → remains own before ≡ true → remains own after ≡ true
remains_again stays before after h r = refl
remains_again goes before after h r = r
remains_again waits before after h r = h r

module _ {E A : Type 0} (sort : E → A → Sort) (keeper_stays : (e : E) (a : A) → KeeperStays (sort e a).own (sort e a).others) where
  kept_pick : (b : Bool) (a : Answered E A) (l : List (Answered E A)) →
      kept_by sort (pick b (a ∷ l) l) ≡ pick b (settled (sort_of sort a).others (kept_by sort l)) (kept_by sort l)
  kept_pick true a l = refl
  kept_pick false a l = refl

  still_kept : (l : List (Answered E A)) → kept_by sort l ≡ true → kept_by sort (unstruck sort l) ≡ true
  still_kept [] k = refl
  still_kept (a ∷ l) k =
      let t = sort_of sort a in
      kept_pick (remains t.own (kept_by sort l)) a (unstruck sort l)
      ∙ kept_again t.own t.others (kept_by sort l) (kept_by sort (unstruck sort l)) (keeper_stays a.event a.answer) (still_kept l) k

  pick_again : (a : Answered E A) (l : List (Answered E A)) (b : Bool) → (b ≡ true → remains (sort_of sort a).own (kept_by sort l) ≡ true) →
      unstruck sort l ≡ l → unstruck sort (pick b (a ∷ l) l) ≡ pick b (a ∷ l) l
  pick_again a l true h e = rw (h refl, e) refl
  pick_again a l false h e = e

  pub unstruck_twice : (l : List (Answered E A)) → unstruck sort (unstruck sort l) ≡ unstruck sort l
  unstruck_twice [] = refl
  unstruck_twice (a ∷ l) =
      let t = sort_of sort a in
      pick_again a (unstruck sort l) (remains t.own (kept_by sort l))
      (remains_again t.own (kept_by sort l) (kept_by sort (unstruck sort l)) (still_kept l)) (unstruck_twice l)

-- ANSWERS AND STATE. The struck log is answered from k or from s: the rest of the log says from which.

choice : {S : Type 0} (others : Others) (later : Bool) (k s : S) →
    pick (settled others later) k s ≡ pick later (if_kept others k s) (if_struck others k s)
choice keeps later k s = rw (pick_same later k) refl
choice strikes later k s = rw (pick_same later s) refl
choice leaves later k s = refl

module _ {S E A : Type 0} (m : Machine S E A) (laws : Laws m) where
  -- from n on, the records that are left are answered as they were, and end where w does
  record Left (n : S) (left : List (Answered E A)) (w : S) : Type 0 where
    answers : run m n (events left) ≡ left
    state : m.bare (final m n (events left)) ≡ m.bare w

  sent : (n : S) (e : E) (a : A) (left : List (Answered E A)) (w : S) → (m.step n e).answer ≡ a →
      Left (m.step n e).state left w → Left n (answered e a ∷ left) w
  sent n e a left w p h = record { answers = rw (p, h.answers) refl; state = h.state }

  -- one record, whatever its sort and whatever comes later
  one : (own : Own) (later : Bool) (e : E) (o : Out S A) (k s : S) (left : List (Answered E A)) (w : S) → Follows m laws.Beside own e o k s →
      ((k₁ s₁ : S) → laws.Beside o.state k₁ s₁ → Left (pick later k₁ s₁) left w) →
      Left (pick later k s) (pick (remains own later) (answered e o.answer ∷ left) left) w
  one stays true e o k s left w h go = sent k e o.answer left w h.0 (go (m.step k e).state (m.step s e).state h.2)
  one stays false e o k s left w h go = sent s e o.answer left w h.1 (go (m.step k e).state (m.step s e).state h.2)
  one goes later e o k s left w h go = go k s h
  one waits true e o k s left w h go = sent k e o.answer left w h.0 (go (m.step k e).state s h.1)
  one waits false e o k s left w h go = go (m.step k e).state s h.1

  strike_from : (log : List E) (w k s : S) → laws.Beside w k s →
      Left (pick (kept_by m.sort (run m w log)) k s) (unstruck m.sort (run m w log)) (final m w log)
  strike_from [] w k s b = record { answers = refl; state = laws.ends w k s b }
  strike_from (e ∷ log) w k s b =
      let o = m.step w e in
      let t = m.sort e o.answer in
      let rest = run m o.state log in
      rw (choice t.others (kept_by m.sort rest) k s)
      (one t.own (kept_by m.sort rest) e o (if_kept t.others k s) (if_struck t.others k s) (unstruck m.sort rest)
      (final m o.state log) (laws.turns w k s e b).follows (λ k₁ s₁ h. strike_from log o.state k₁ s₁ h))

  -- STRIKING, for every log, from a state in which nothing waits
  pub striking : (s : S) → m.Idle s → (log : List E) → Struck m s log
  striking s i log =
      let all = run m s log in
      let h : Left s (unstruck m.sort all) (final m s log) = rw (pick_same (kept_by m.sort all) s) at (strike_from log s s s (laws.begins s i)) in
      record {
        in_order = rw (run_events m s log) at (unstruck_sublist m.sort all);
        answers = h.answers;
        state = h.state;
        twice = rw (h.answers, unstruck_twice m.sort laws.keeper_stays all) refl;
      }
