-- The statuses of the services, with the numbers and names of OSEK/VDX OS 2.2.3, section 13 (StatusType).
use Rattle.std.specs.Prelude.{ℕ}

abbrev pub e_ok : ℕ
e_ok = 0

abbrev pub e_os_access : ℕ
e_os_access = 1

abbrev pub e_os_limit : ℕ
e_os_limit = 4

abbrev pub e_os_nofunc : ℕ
e_os_nofunc = 5

abbrev pub e_os_resource : ℕ
e_os_resource = 6

abbrev pub e_os_state : ℕ
e_os_state = 7

abbrev pub e_os_value : ℕ
e_os_value = 8

-- what a service makes of a part of the kernel's state, and its status
pub record Answered (S : Type 0) : Type 0 where
  pub state : S
  pub status : ℕ

-- the service was done
abbrev pub done : {S : Type 0} → S → Answered S
done s = record { state = s; status = e_ok }

-- the service was refused, and nothing has changed
abbrev pub refused : {S : Type 0} → S → ℕ → Answered S
refused s status = record { state = s; status = status }
