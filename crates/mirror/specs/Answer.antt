-- The numbers of the answers to a record (document 01, "Answer numbers"; doubtful, document 02, wish 2).
use Rattle.std.specs.Prelude.{ℕ, ◌+◌, Bool, ◌||◌, List, [], ◌∷◌, eqb, ltb}
use Rattle.laws.specs.Pick.{pick}
use Rattle.mirror.specs.declared.answer.Answer.{Answer}
use Rattle.mirror.specs.declared.answer.Answer.TheVariants.{Taken, Doubtful, Held, Status, Ignored, Torn, Back, Bad, Nothing, Cut, Unsound}

abbrev pub number_of : Answer → ℕ
number_of Taken = 0
number_of Held = 1
number_of Status = 2
number_of Ignored = 3
number_of Torn = 4
number_of Back = 5
number_of Bad = 6
number_of Nothing = 7
number_of Cut = 8
number_of Unsound = 10
number_of Doubtful = 11

-- the name that a program prints of it, in bytes
abbrev pub name_of : Answer → List ℕ
name_of Taken = 116 ∷ 97 ∷ 107 ∷ 101 ∷ 110 ∷ []
name_of Doubtful = 100 ∷ 111 ∷ 117 ∷ 98 ∷ 116 ∷ 102 ∷ 117 ∷ 108 ∷ []
name_of Held = 104 ∷ 101 ∷ 108 ∷ 100 ∷ []
name_of Status = 115 ∷ 116 ∷ 97 ∷ 116 ∷ 117 ∷ 115 ∷ []
name_of Ignored = 105 ∷ 103 ∷ 110 ∷ 111 ∷ 114 ∷ 101 ∷ 100 ∷ []
name_of Torn = 116 ∷ 111 ∷ 114 ∷ 110 ∷ []
name_of Back = 98 ∷ 97 ∷ 99 ∷ 107 ∷ []
name_of Bad = 98 ∷ 97 ∷ 100 ∷ []
name_of Nothing = 110 ∷ 111 ∷ 110 ∷ 101 ∷ []
name_of Cut = 99 ∷ 117 ∷ 116 ∷ []
name_of Unsound = 117 ∷ 110 ∷ 115 ∷ 111 ∷ 117 ∷ 110 ∷ 100 ∷ []

-- and the answer of a number
abbrev pub answer_of : ℕ → Answer
answer_of n =
    pick (eqb n 0) Taken
    (pick (eqb n 1) Held
    (pick (eqb n 2) Status
    (pick (eqb n 3) Ignored
    (pick (eqb n 4) Torn
    (pick (eqb n 5) Back
    (pick (eqb n 6) Bad
    (pick (eqb n 7) Nothing
    (pick (eqb n 8) Cut
    (pick (eqb n 11) Doubtful Unsound)))))))))

-- carried out: taken, or doubtful, which counts as taken
abbrev pub carried_out : ℕ → Bool
carried_out n = eqb n 0 || eqb n 11

-- the counts are nine: of the answers 0 to 7, and of 11
abbrev pub count_places : ℕ
count_places = 9

-- the place of an answer's count: doubtful has its own right after taken, the answers 1 to 7 follow; any other has none, past the last
abbrev pub place_of : ℕ → ℕ
place_of n = pick (eqb n 0) 0 (pick (eqb n 11) 1 (pick (ltb n 8) (n + 1) count_places))

-- the byte that an answer carries: the byte read for reads answered 0, 1 or 2
abbrev pub bus_byte : Answer → ℕ → ℕ
bus_byte Taken byte = byte
bus_byte Held byte = byte
bus_byte Status byte = byte
bus_byte Ignored byte = 0
bus_byte Torn byte = 0
bus_byte Back byte = 0
bus_byte Bad byte = 0
bus_byte Nothing byte = 0
bus_byte Cut byte = 0
bus_byte Unsound byte = 0
bus_byte Doubtful byte = 0

-- what the paper says of an answer: its number and its bus byte
pub record Paper : Type 0 where
  pub number : ℕ
  pub byte : ℕ

abbrev pub paper : Answer → ℕ → Paper
paper answer byte = record { number = number_of answer; byte = bus_byte answer byte }
