-- What opening a file answers.
use Rattle.std.specs.Prelude.{◌≡◌, ℤ, pos, negsuc, Option, Some, None}
use Rattle.std.specs.declared.fs.File.{File}
use Rattle.std.specs.Fd.{file_raw_fd}

-- a descriptor, which is not negative, or -1
abbrev pub Descriptor : ℤ → Type 0
Descriptor (pos n) = Unit {0}
Descriptor (negsuc n) = n ≡ 0

-- the number of an open file, -1 where there is none
abbrev pub number_of : Option File → ℤ
number_of (Some file) = file_raw_fd file
number_of None = negsuc 0
