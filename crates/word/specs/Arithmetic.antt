-- The arithmetic of the words. A value is a number below 65,536, a byte one below 256.
use Rattle.std.specs.Prelude.{ℕ, ◌+◌, ◌-◌, ◌*◌, ◌/◌, ◌%◌, Bool, true, false, cond, not, ℤ, pos, negsuc, Some, None, Option, ◌==◌, bit_and, bit_or, bit_xor, int_lt, nat_lt}
use Rattle.word.specs.declared.instructions.Computation.{Computation}
use Rattle.word.specs.declared.instructions.Computation.TheVariants.{And, Or, Xor, Slt, Sltu, Add, Sub}
use Rattle.word.specs.declared.instructions.Shift.{Shift}
use Rattle.word.specs.declared.instructions.Shift.TheVariants.{Lsr, Asr}
use Rattle.word.specs.declared.instructions.Condition.{Condition}
use Rattle.word.specs.declared.instructions.Condition.TheVariants.{Zero, NotZero}
use Rattle.word.specs.declared.table.Extension.{Extension}
use Rattle.word.specs.declared.table.Extension.TheVariants.{ZeroExtended, SignExtended}

-- A byte with zeros above it.
abbrev pub zero_extend : ℕ → ℕ
zero_extend n = n

-- A byte with its bit 7 repeated above it.
abbrev pub sign_extend : ℕ → ℕ
sign_extend n = cond (nat_lt n 128) n (0xFF00 + n)

-- The value B of an immediate; a mnemonic that takes none has none, written 0.
abbrev pub extend : Option Extension → ℕ → ℕ
extend None n = 0
extend (Some ZeroExtended) n = zero_extend n
extend (Some SignExtended) n = sign_extend n

-- The signed number that a value stands for, −32,768 to 32,767: bit 15 counts −32,768. (negsuc m is −1 − m.)
abbrev pub signed : ℕ → ℤ
signed a = cond (nat_lt a 32768) (pos a) (negsuc (65535 - a))

-- 1 or 0.
abbrev pub truth : Bool → ℕ
truth true = 1
truth false = 0

-- The bitwise product, sum and difference.
abbrev pub and : ℕ → ℕ → ℕ
and a b = bit_and a b

abbrev pub or : ℕ → ℕ → ℕ
or a b = bit_or a b

abbrev pub xor : ℕ → ℕ → ℕ
xor a b = bit_xor a b

-- Is A below B, both signed?
abbrev pub slt : ℕ → ℕ → ℕ
slt a b = truth (int_lt (signed a) (signed b))

-- Is A below B, both unsigned?
abbrev pub sltu : ℕ → ℕ → ℕ
sltu a b = truth (nat_lt a b)

-- The sum modulo 65,536.
abbrev pub add : ℕ → ℕ → ℕ
add a b = (a + b) % 65536

-- The difference modulo 65,536.
abbrev pub sub : ℕ → ℕ → ℕ
sub a b = (a + (65536 - b)) % 65536

abbrev pub compute : Computation → ℕ → ℕ → ℕ
compute And a b = and a b
compute Or a b = or a b
compute Xor a b = xor a b
compute Slt a b = slt a b
compute Sltu a b = sltu a b
compute Add a b = add a b
compute Sub a b = sub a b

-- B itself.
abbrev pub ldr : ℕ → ℕ
ldr b = b

-- 256 times the register, plus B, modulo 65,536.
abbrev pub ldc : ℕ → ℕ → ℕ
ldc a b = (256 * a + b) % 65536

-- Half of A, without the remainder.
abbrev pub lsr : ℕ → ℕ
lsr a = a / 2

-- The same, with bit 15 of A kept.
abbrev pub asr : ℕ → ℕ
asr a = cond (nat_lt a 32768) (a / 2) (0x8000 + a / 2)

abbrev pub shift_right : Shift → ℕ → ℕ
shift_right Lsr a = lsr a
shift_right Asr a = asr a

-- The low byte of a value.
abbrev pub low_byte : ℕ → ℕ
low_byte a = a % 256

-- Is a branch taken on this value?
abbrev pub is_taken : Condition → ℕ → Bool
is_taken Zero a = a == 0
is_taken NotZero a = not (a == 0)

-- The address of the word behind the one at this address.
abbrev pub next_address : ℕ → ℕ
next_address at = (at + 2) % 65536

-- Where a branch by B goes that stands at this address.
abbrev pub branch_target : ℕ → ℕ → ℕ
branch_target at b = (at + 2 + b) % 65536
