pub mod Machines
pub mod FlightViews
pub mod Begun
pub mod Flights
pub mod Laws
