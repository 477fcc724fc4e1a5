-- The scratch that a call leaves which needs another buffer too. Assumes nothing.
use Prim.Native.Nat.{ℕ, ◌≤◌, ◌<◌}
use mathlib.Core.Path.{◌≡◌, sym, ◌∙◌}
use mathlib.Core.List.{List}
use borrow.Author.Tests.{lt-ltb, le-ltb}
use lib.ListN.{length}
use Rattle.formats.specs.Calls.{after_call, scratch_left}

-- where the buffer is short, scratch is left as it came
pub short_left : (needed : ℕ) (buffer scratch : List ℕ) → length buffer < needed → scratch ≡ scratch_left needed buffer scratch
short_left needed buffer scratch h = sym (simp (lt-ltb (length buffer) needed h))

-- and else as every call leaves it
pub long_left : (needed : ℕ) (buffer entry : List ℕ) → needed ≤ length buffer → {exit : List ℕ} → exit ≡ after_call entry → exit ≡ scratch_left needed buffer entry
long_left needed buffer entry h e = e ∙ sym (simp (le-ltb (length buffer) needed h))
