-- How long the printed form is at most.
use Prim.Native.Nat.{ℕ, zero, suc, ◌+◌, ◌*◌, ◌-◌, ◌/◌, ◌%◌, ◌≤◌}
use Rattle.std.specs.Prelude.{◌≡◌, refl, Bool, true, false, cond, List, [], ◌∷◌, ◌++◌, eqb, ltb, length}
use Rattle.std.proofs.Common.{arith, length-append, eqb-true}
use Rattle.io.specs.Digits.{hex_digit_ascii}
use Rattle.fraction.specs.declared.Fraction.{Fraction}
use Rattle.specification.specs.Bytes.{number_at}
use Rattle.specification.specs.Answers.{zero_floor_port}
use Rattle.text.specs.Places.{Lies, is_record_lem, size_port, size_buffer, size_loop, size_cycle, size_floor}
use Rattle.text.specs.Lines.{
  decimal,
  decimal_in,
  fraction,
  line_end,
  space,
  answer_word,
  at_word,
  port_word,
  component_word,
  weight_word,
  period_word,
  start_word,
  buffer_word,
  size_word,
  loop_word,
  block_word,
  floor_port_word,
  sign_word,
  field,
  fraction_field,
  place_text,
  answer_line,
  port_text,
  port_line,
  buffer_line,
  step_text,
  connection_text,
  items_line,
  floor_port_line,
  zero_floor_line,
  floor_line,
}
use Rattle.text.specs.Printed.{cycle_word, items_text, port_at, buffer_at, step_at, connection_at, loop_at, cycle_at, floor_at, is_record, record_line, record_lines, printed, printed_room}

pub record AtMost (xs : List ℕ) (most : ℕ) : Type 0 where
  pub within : length xs ≤ most

word : (xs : List ℕ) → AtMost xs (length xs)
word xs = record { within = omega arith }

less : {xs : List ℕ} {m n : ℕ} → AtMost xs m → m ≤ n → AtMost xs n
less h l = record { within = omega arith }

infixl 60 ◌⊕◌
◌⊕◌ : {xs ys : List ℕ} {m n : ℕ} → AtMost xs m → AtMost ys n → AtMost (xs ++ ys) (m + n)
◌⊕◌ {xs} {ys} h k = record { within = omega (arith, length-append xs ys) }

either : (b : Bool) {xs ys : List ℕ} {m : ℕ} → (b ≡ true → AtMost xs m) → (b ≡ false → AtMost ys m) → AtMost (cond b xs ys) m
either true h k = h refl
either false h k = k refl

-- ---- numbers
decimal_in_lem : (k n : ℕ) → AtMost (decimal_in k n) (k + 1)
unfolding decimal_in
decimal_in_lem zero n = word _
decimal_in_lem (suc k) n =
    either (ltb n 10)
    (λ e. less (word (hex_digit_ascii n ∷ [])) (omega arith))
    (λ e. less (decimal_in_lem k (n / 10) ⊕ word (hex_digit_ascii (n % 10) ∷ [])) (omega arith))

pub decimal_size : (n : ℕ) → AtMost (decimal n) 20
unfolding decimal
decimal_size n = decimal_in_lem 19 n

fraction_size : (f : Fraction) → AtMost (fraction f) 41
unfolding fraction
fraction_size f = decimal_size _ ⊕ word (47 ∷ []) ⊕ decimal_size _

-- ---- lines
field_size : (xs : List ℕ) (n : ℕ) → AtMost (field xs n) (length xs + 20)
unfolding field
field_size xs n = word xs ⊕ decimal_size n

fraction_field_size : (xs : List ℕ) (f : Fraction) → AtMost (fraction_field xs f) (length xs + 41)
unfolding fraction_field
fraction_field_size xs f = word xs ⊕ fraction_size f

sign_size : (against : Bool) → AtMost (sign_word against) 2
unfolding sign_word
sign_size against = either against (λ e. word _) (λ e. word _)

place_size : (number place : ℕ) → AtMost (place_text number place) 24
unfolding place_text
place_size number place = either (eqb number 0) (λ e. less (word []) (omega arith)) (λ e. field_size at_word _)

answer_size : (number place : ℕ) → AtMost (answer_line number place) 52
unfolding answer_line
answer_size number place = field_size answer_word _ ⊕ place_size number place ⊕ word line_end

port_size : (number component weight a b start : ℕ) → AtMost (port_line number component weight a b start) 182
unfolding port_line port_text
port_size number component weight a b start =
    field_size port_word _
    ⊕ field_size component_word _
    ⊕ field_size weight_word _
    ⊕ fraction_field_size period_word _
    ⊕ fraction_field_size start_word _
    ⊕ word line_end

buffer_size : (number size : ℕ) → AtMost (buffer_line number size) 54
unfolding buffer_line
buffer_size number size = field_size buffer_word _ ⊕ field_size size_word _ ⊕ word line_end

floor_size : (port : ℕ) → AtMost (floor_line port) 32
unfolding floor_line floor_port_line
floor_size port = either (eqb port zero_floor_port) (λ e. less (word zero_floor_line) (omega arith)) (λ e. field_size floor_port_word _ ⊕ word line_end)

line_size : {xs items : List ℕ} {m n : ℕ} → AtMost xs m → AtMost items n → AtMost (items_line xs items) (m + n + 1)
unfolding items_line
line_size h k = h ⊕ k ⊕ word line_end

-- ---- the line of the record at a place
head_size : (number : ℕ) → AtMost (cycle_word number) 11
unfolding cycle_word
head_size number = either (eqb number 0) (λ e. word _) (λ e. less (word block_word) (omega arith))

pub items_size : {item : ℕ → List ℕ} {most : ℕ}
    → ((at : ℕ) → AtMost (item at) most)
    → (size at n : ℕ) → AtMost (items_text item size at n) (n * most)
unfolding items_text
items_size h size at zero = less (word []) (omega arith)
items_size h size at (suc n) = less (h at ⊕ items_size h size (at + size) n) (omega arith)

module _ (s : List ℕ) where
  pub connection_size : (at : ℕ) → AtMost (connection_at s at) 21
  unfolding connection_at connection_text
  connection_size at = field_size space _

  pub step_size : (at : ℕ) → AtMost (step_at s at) 22
  unfolding step_at step_text
  step_size at = sign_size _ ⊕ decimal_size _

  loop_size : (at n : ℕ) → AtMost (loop_at s at n) (n * 22 + 5)
  unfolding loop_at
  loop_size at n = less (line_size (word loop_word) (items_size step_size 4 (at + 4) n)) (omega arith)

  cycle_size : (at number n : ℕ) → AtMost (cycle_at s at number n) (n * 21 + 12)
  unfolding cycle_at
  cycle_size at number n = less (line_size (head_size number) (items_size connection_size 2 (at + 4) n)) (omega arith)

  -- at most twelve bytes for each byte of the record
  pub record_size : (at number : ℕ) → Lies s at → AtMost (record_line s at number) (12 * (2 + number_at s at 2))
  unfolding record_line port_at buffer_at floor_at
  record_size at number h =
      let kind = number_at s (at + 2) 2 in
      either (eqb kind 16) (λ e. less (port_size number _ _ _ _ _) (omega (arith, size_port h (eqb-true kind 16 e))))
      (λ p. either (eqb kind 17) (λ e. less (buffer_size _ _) (omega (arith, size_buffer h (eqb-true kind 17 e))))
      (λ q. either (eqb kind 18) (λ e. less (loop_size at _) (omega (arith, size_loop h (eqb-true kind 18 e))))
      (λ r. either (eqb kind 19) (λ e. less (cycle_size at number _) (omega (arith, size_cycle h (eqb-true kind 19 e))))
      (λ t. less (floor_size _) (omega (arith, size_floor h p q r t))))))

  records_size : (n at number : ℕ) → at ≤ length s → AtMost (record_lines s n at number) (12 * (length s - at))
  unfolding record_lines
  records_size zero at number l = less (word []) (omega arith)
  records_size (suc n) at number l =
      either (is_record s at)
      (λ e.
      let h : Lies s at = is_record_lem e in
      less (record_size at number h ⊕ records_size n (at + 2 + number_at s at 2) (number + 1) h.ends) (omega (arith, h.ends)))
      (λ e. less (word []) (omega arith))

-- the room suffices
pub printed_size : (number place : ℕ) (s : List ℕ) → AtMost (printed number place s) (printed_room s)
unfolding printed
printed_size number place s = less (answer_size number place ⊕ records_size s (length s) 0 0 (omega arith)) (omega arith)
