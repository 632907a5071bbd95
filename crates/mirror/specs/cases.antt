pub mod BusyCases
