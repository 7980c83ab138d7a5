-- Both ways of bracketing three tables have the same answer.
use Rattle.std.specs.Prelude.{ℕ, ◌≡◌, List}
use Rattle.specification.specs.Table.{Table}
use Rattle.specification.specs.Reading.{read_table}
use Rattle.specification.specs.Answers.{Answer, AnswerOf}
use Rattle.specification.specs.Bracketing.{Three, join_left, join_right, SameTables, SameUpToOrder}
use Rattle.specification.specs.Joining.{Join}
use Rattle.demands.specs.Reordered.{permuted_links}
use Rattle.demands.specs.OrderLaws.{Pair, answers_pair, same_of}
use Rattle.bracketing.specs.Brackets.{brackets}

same_number : {t : Table} {x y : Join} → SameTables t x y → (read_table x.table).number ≡ (read_table y.table).number
unfolding read_table
same_number same = rw (same.left_read, same.right_read, same.ports)

module _ (a b c d : List ℕ) (three : Three a b c d) {room : ℕ} {x y : Answer} (left : AnswerOf (join_left a b c d).table room x)
    (right : AnswerOf (join_right a b c d).table room y) where
  abbrev t : Table
  t = (read_table (join_left a b c d).table).table

  abbrev u : Table
  u = (read_table (join_right a b c d).table).table

  pub bracketed_pair : Pair t u x y
  unfolding read_table
  bracketed_pair =
      let same = brackets a b c d three in
      answers_pair (same_number same) (permuted_links t u same.ports same.links) left right

  pub bracketed_answers : SameUpToOrder t x y
  bracketed_answers = same_of bracketed_pair
