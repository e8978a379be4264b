-- `ipc::writer::put_value` meets its contract: each arm puts what the value is written as.
-- Assumes nothing.
use Prim.Native.Nat.{ℕ}
use mathlib.Core.List.{List}
use mathlib.Core.Path.{◌≡◌, sym, subst}
use lib.IntN.{ℤ}
use mir.Syntax.{w64}
use mir.Val.{SFits}
use Rattle.octets.specs.Put.{Put}
use Rattle.bencode.specs.Value.{integer, encode}
use Rattle.bencode.proofs.scalars.Ranges.{machine, same}
use Rattle.ipc.specs.declared.keys.Class.{Class}
use Rattle.ipc.specs.declared.writer.Given.{Given}
use Rattle.ipc.specs.Writer.{encode_given}
use Rattle.ipc.proofs.writer.put_value.Goals as goal

-- what is put of a value is put of what is equal to it
put_as : (class : Class) (a s b : List ℕ) (i j : ℕ) (k : Given) {given : Given} → given ≡ k → Put a i (encode_given class k s) b j → Put a i (encode_given class given s) b j
put_as class a s b i j k e p = subst (λ (x : Given). Put a i (encode_given class x s) b j) (sym e) p

-- an integer, as the machine has it
put_integer_lem : (a b : List ℕ) (i j : ℕ) (z : ℤ) → SFits w64 z → Put a i (encode (integer (machine z))) b j → Put a i (encode (integer z)) b j
put_integer_lem a b i j z f p = subst (λ (x : ℤ). Put a i (encode (integer x)) b j) (same z f) p

pub returns-in-Nothing : goal.returns-in-Nothing
unfolding encode_given
returns-in-Nothing c = put_as c.args.class _ _ _ _ _ Given.Nothing c.in-Nothing.is c.put_string.ensures

pub returns-in-Integer : goal.returns-in-Integer
unfolding encode_given
returns-in-Integer c =
    put_as c.args.class _ _ _ _ _ (Given.Integer c.in-Integer.z) c.in-Integer.is (put_integer_lem _ _ _ _ c.in-Integer.z (record { sfits = c.in-Integer.known_told-1-own.given.0.1 }) c.put_integer.ensures)

pub returns-in-Bytes : goal.returns-in-Bytes
unfolding encode_given
returns-in-Bytes c = put_as c.args.class _ _ _ _ _ Given.Bytes c.in-Bytes.is c.put_given.ensures
