-- The numbers of the hash tree over n data blocks. A tree block has sixteen cells, each the image of one block of the level below.
use Rattle.std.specs.Prelude.{ℕ, zero, suc, ◌+◌, ◌-◌, ◌/◌, ◌%◌, ◌^◌, cond, nat_le}

-- sixteen to one, rounded up
abbrev pub up : ℕ → ℕ
up n = (n + 15) / 16

-- how many blocks level l has: level 0 holds the images of the data blocks, each level above those of the level below it
abbrev pub width : ℕ → ℕ → ℕ
width n zero = up n
width n (suc l) = up (width n l)

-- how often sixteen are packed to one, once at least, until one is left; f times are the most that are tried
abbrev pub packings : ℕ → ℕ → ℕ
packings zero n = 0
packings (suc f) n = suc (cond (nat_le (up n) 1) 0 (packings f (up n)))

-- how many levels the tree has: n packings are always enough
unfoldable pub levels : ℕ → ℕ
levels n = packings n n

-- how many blocks the levels below level l have
abbrev pub lower : ℕ → ℕ → ℕ
lower n zero = 0
lower n (suc l) = width n l + lower n l

-- how many blocks the tree has
unfoldable pub total : ℕ → ℕ
total n = lower n (levels n)

-- how many blocks level l and the levels above it have
abbrev pub above : ℕ → ℕ → ℕ
above n l = total n - lower n l

-- the levels lie on the tree device from block 0, the top first, so level l starts after those above it
abbrev pub start : ℕ → ℕ → ℕ
start n l = above n (l + 1)

-- the place of data block k at level l: the number of its tree block on the tree device, and its cell there
unfoldable pub place : ℕ → ℕ → ℕ → ℕ × ℕ
place n l k = (start n l + k / 16 ^ suc l, k / 16 ^ l % 16)
