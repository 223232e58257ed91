-- The definitions at the edges, computed.
use mathlib.Core.Path.{◌≡◌, refl}
use Rattle.text.specs.Bytes.{bytes}
use Rattle.text.specs.Decimal.{decimal_in, decimal, number_tail, number_from, number_at}
use Rattle.text.specs.Number.{Is, Bad}

-- 2^64 - 1 is printed
most-printed : decimal 18446744073709551615 ≡ bytes "18446744073709551615"
unfolding decimal decimal_in
most-printed = refl

record Read : Type 0 where
  -- 2^64 - 1 is a number, one more is none
  most : number_at (bytes "18446744073709551615\n") 0 ≡ Is 18446744073709551615 21
  one_more : number_at (bytes "18446744073709551616\n") 0 ≡ Bad
  -- 0 is a number; 00 and 01 have a leading zero
  zero : number_at (bytes "=0\n") 1 ≡ Is 0 3
  two_zeros : number_at (bytes "00\n") 0 ≡ Bad
  zero_first : number_at (bytes "01\n") 0 ≡ Bad
  -- no digit, a sign, a carriage return and a missing newline are no number
  empty : number_at (bytes "\n") 0 ≡ Bad
  with_sign : number_at (bytes "+1\n") 0 ≡ Bad
  with_return : number_at (bytes "1\r\n") 0 ≡ Bad
  not_ended : number_at (bytes "1") 0 ≡ Bad

read : Read
unfolding number_at number_from number_tail
read = record {
  most = refl;
  one_more = refl;
  zero = refl;
  two_zeros = refl;
  zero_first = refl;
  empty = refl;
  with_sign = refl;
  with_return = refl;
  not_ended = refl;
}
