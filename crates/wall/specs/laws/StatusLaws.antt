-- Bytes of one kind put on a page after bytes of another.
use Rattle.std.specs.Prelude.{ℕ, suc, ◌+◌, refl, List, [], ◌++◌, get_or, slice_index_or}
use Rattle.std.proofs.Common.{sym, ap, subst, ◌∙◌, add-one, append_assoc}
use Rattle.desk.specs.Page.{Puts, PutsSome}
use Rattle.desk.specs.declared.page.Page.{Page}
use Rattle.desk.specs.laws.PageLaws.{puts_then}
use Rattle.mirror.specs.declared.answer.Answer.TheVariants.{Taken, Doubtful, Held, Status, Ignored, Torn, Back, Bad, Nothing}
use Rattle.mirror.specs.declared.answer.TheConstants.{COUNTED}
use Rattle.wall.specs.Status.{Count, FirstCounts, Exactly, Then}

pub just : {s : List ℕ} {p q : Page} → Puts s p q → PutsSome (Exactly s) p q
just {s} P = record { bytes = s; kind = refl; puts = P }

pub some_then : {A B : List ℕ → Type 0} {p q r : Page} → PutsSome A p q → PutsSome B q r → PutsSome (Then A B) p r
some_then P Q =
    record {
      bytes = P.bytes ++ Q.bytes;
      kind = record { first = P.bytes; second = Q.bytes; one = P.kind; other = Q.kind; written = refl };
      puts = puts_then P.puts Q.puts;
    }

-- one count more
pub counts_more : (counts : List ℕ) (n : ℕ) {p q r : Page} → PutsSome (FirstCounts counts n) p q →
    PutsSome (Count (slice_index_or COUNTED n Taken) (get_or counts n 0)) q r → PutsSome (FirstCounts counts (n + 1)) p r
counts_more counts n P Q = rw (add-one n) (some_then P Q)

-- the last count is the first of what follows
later : (counts : List ℕ) (n : ℕ) {R : List ℕ → Type 0} {bytes : List ℕ} →
    Then (FirstCounts counts (suc n)) R bytes → Then (FirstCounts counts n) (Then (Count (slice_index_or COUNTED n Taken) (get_or counts n 0)) R) bytes
later counts n t = record {
  first = t.one.first;
  second = t.one.second ++ t.second;
  one = t.one.one;
  other = record { first = t.one.second; second = t.second; one = t.one.other; other = t.other; written = refl };
  written = t.written ∙ ap (λ s. s ++ t.second) t.one.written ∙ append_assoc t.one.first t.one.second t.second;
}

alone : {R : List ℕ → Type 0} {bytes : List ℕ} → Then (Exactly []) R bytes → R bytes
alone {R} t = subst R (sym (t.written ∙ ap (λ s. s ++ t.second) t.one)) t.other

-- so the nine are told one after another
pub nine_counts : (counts : List ℕ) {p q : Page} {R : List ℕ → Type 0} → PutsSome (Then (FirstCounts counts 9) R) p q →
    PutsSome
    (Then (Count Taken (get_or counts 0 0))
    (Then (Count Doubtful (get_or counts 1 0))
    (Then (Count Held (get_or counts 2 0))
    (Then (Count Status (get_or counts 3 0))
    (Then (Count Ignored (get_or counts 4 0))
    (Then (Count Torn (get_or counts 5 0)) (Then (Count Back (get_or counts 6 0)) (Then (Count Bad (get_or counts 7 0)) (Then (Count Nothing (get_or counts 8 0)) R)))))))))
    p q
nine_counts counts P = record {
  bytes = P.bytes;
  kind = alone (by 0 (by 1 (by 2 (by 3 (by 4 (by 5 (by 6 (by 7 (by 8 P.kind)))))))));
  puts = P.puts;
}
  where
    by : (n : ℕ) {R : List ℕ → Type 0} {bytes : List ℕ} →
        Then (FirstCounts counts (suc n)) R bytes → Then (FirstCounts counts n) (Then (Count (slice_index_or COUNTED n Taken) (get_or counts n 0)) R) bytes
    by = later counts
